-- The depths at a point, written into the table one after another by looking products up.
use Prim.Native.Nat.{ℕ, zero, suc, ◌+◌, ◌*◌, ◌-◌, ◌^◌, ◌<◌, ◌≤◌}
use mathlib.Core.Path.{◌≡◌, refl, ap, ap₂, subst, ◌∙◌}
use mathlib.Core.Logic.{⊎_elim}
use mathlib.Core.List.{List}
use native.Mathlib.Numerals.{add-one}
use native.Mathlib.Omega.{arith}
use lib.ListN.{get_or}
use lib.Pow.{pow_pos}
use Rattle.defs.specs.Field.{Width, add, mul}
use Rattle.defs.specs.Place.{Symbols}
use Rattle.theory.proofs.Order.{eq_or_not, eq_lt}
use Rattle.theory.proofs.Field.{ring, add_lt, mul_lt}
use Rattle.theory.proofs.Generator.{one_lt}
use Rattle.field.specs.Arithmetic.{Products}
use Rattle.solve.specs.Table.{stride, at}
use Rattle.pair.specs.Equation.{deeper, power_at}
use Rattle.theory.specs.Fill.{Span}
use Rattle.theory.proofs.Spans.{span_symbols}
use Rattle.pair.specs.Fill.{look, Powers}

-- the next coefficient of a depth
pub deeper_next : (f : ℕ → ℕ) (first : ℕ) (above : ℕ → ℕ) (a : ℕ) → deeper f first above (a + 1) ≡ add (above a) (f (deeper f first above a))
unfolding deeper
deeper_next f first above a = rw (add-one a)

pub deeper_first : (f : ℕ → ℕ) (first : ℕ) (above : ℕ → ℕ) → deeper f first above 0 ≡ first
unfolding deeper
deeper_first f first above = refl

module _ (m P : ℕ) where
  deeper_lt : (above : ℕ → ℕ) → ((a : ℕ) → above a < 2 ^ m) → (a : ℕ) → deeper (mul m P) 0 above a < 2 ^ m
  unfolding deeper
  deeper_lt above h zero = pow_pos m
  deeper_lt above h (suc a) = add_lt m _ _ (h a) (mul_lt m _ _)

  pub power_lt : 1 < 2 ^ m → (j a : ℕ) → power_at (mul m P) j a < 2 ^ m
  unfolding power_at
  power_lt h zero zero = h
  power_lt h zero (suc a) = mul_lt m _ _
  power_lt h (suc j) a = deeper_lt _ (power_lt h j) a

  module _ {row : List ℕ} (R : Products m P row) (one : 1 < 2 ^ m) where
    -- depth 0 has nothing above it
    look_power : (n : ℕ) (above : ℕ → ℕ) → ((a : ℕ) → a < n → above a ≡ 0) → (a : ℕ) → a < n → deeper (look row) 1 above a ≡ power_at (mul m P) 0 a
    unfolding deeper power_at
    look_power n above e zero l = refl
    look_power n above e (suc a) l =
        ap₂ add (e a (omega arith)) (ap (look row) (look_power n above e a (omega arith)) ∙ R.at _ (power_lt one 0 a)) ∙ simp ring

    look_deeper : (n j : ℕ) (above : ℕ → ℕ) → ((a : ℕ) → a < n → above a ≡ power_at (mul m P) j a)
        → (a : ℕ) → a < n → deeper (look row) 0 above a ≡ power_at (mul m P) (suc j) a
    unfolding deeper power_at
    look_deeper n j above e zero l = refl
    look_deeper n j above e (suc a) l =
        ap₂ add (e a (omega arith))
        (ap (look row) (look_deeper n j above e a (omega arith)) ∙ R.at _ (power_lt one (suc j) a))

module _ {m P n : ℕ} {row : List ℕ} (w : Width m) (R : Products m P row) where
  pub powers_first : {t₀ t : List ℕ} (above : List ℕ) → Symbols m t₀ → ((a : ℕ) → a < n → look above a ≡ 0) → Span t₀ 0 n (deeper (look row) 1 (look above)) t
      → Powers m P 1 n t₀ t
  powers_first {t₀} {t} above o z S = record {
    size = S.size;
    symbols = span_symbols m S o (λ a l. eq_lt (first a l) (power_lt m P (one_lt m w) 0 a));
    inside = λ j a l h.
        let e : j * stride + a ≡ 0 + a = omega arith in
        let q : 0 ≡ j = omega arith in
        ap (λ (k : ℕ). get_or t k 0) e ∙ S.inside a h ∙ first a h ∙ ap (λ (i : ℕ). power_at (mul m P) i a) q;
    outside = λ k o. S.outside k (λ a l e. o 0 a (omega arith) l (omega arith));
  }
    where
      first : (a : ℕ) → a < n → deeper (look row) 1 (look above) a ≡ power_at (mul m P) 0 a
      first = look_power m P R (one_lt m w) n (look above) z

  pub powers_more : {t₀ t t' : List ℕ} (above : List ℕ) (d : ℕ) → 0 < d → n ≤ stride → Powers m P d n t₀ t → ((a : ℕ) → a < n → look above a ≡ at t (d - 1) a)
      → Span t (d * stride) n (deeper (look row) 0 (look above)) t' → Powers m P (d + 1) n t₀ t'
  powers_more {t₀} {t} {t'} above d pos fits W e S = record {
    size = S.size ∙ W.size;
    symbols = span_symbols m S W.symbols (λ a l. eq_lt (next a l) (power_lt m P (one_lt m w) d a));
    inside = λ j a l h.
        ⊎_elim
        (λ e. rw e (S.inside a h ∙ next a h))
        (λ e. S.outside (j * stride + a) (λ b i w. omega arith) ∙ W.inside j a (omega arith) h)
        (eq_or_not j d);
    outside = λ k o. S.outside k (λ a l. o d a (omega arith) l) ∙ W.outside k (λ j a l. o j a (omega arith));
  }
    where
      next : (a : ℕ) → a < n → deeper (look row) 0 (look above) a ≡ power_at (mul m P) d a
      next a l =
          let s : suc (d - 1) ≡ d = omega arith in
          look_deeper m P R (one_lt m w) n (d - 1) (look above) (λ b i. e b i ∙ W.inside (d - 1) b (omega arith) i) a l ∙ ap (λ (i : ℕ). power_at (mul m P) i a) s

pub powers_all : {m P n d e : ℕ} {t₀ t : List ℕ} → d ≡ e → Powers m P d n t₀ t → Powers m P e n t₀ t
powers_all {m} {P} {n} {d} {e} {t₀} {t} h W = subst (λ (i : ℕ). Powers m P i n t₀ t) h W
