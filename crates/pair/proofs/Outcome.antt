-- The pair that a solution of the equations is, and none where only zero solves them.
use Prim.Native.Nat.{ℕ, suc, ◌+◌, ◌*◌, ◌-◌, ◌/◌, ◌%◌, ◌^◌, ◌<◌, ◌≤◌}
use mathlib.Core.Path.{◌≡◌, refl, ap, sym, subst, ◌∙◌}
use mathlib.Core.Logic.{⊎_elim}
use mathlib.Core.List.{List, ◌++◌}
use native.Mathlib.Nat.{mul_comm, div-add-mod', mod-lt, div-lt_iff_lt-mul, zero-add}
use native.Mathlib.Omega.{arith}
use Rattle.std.specs.Prelude.{None}
use lib.ListN.{length, get_or, take, get_or-eq_default, get_or-append}
use lib.Seq.{get_or-append-add}
use lib.Pow.{pow_pos}
use Rattle.defs.specs.Place.{tab, Symbols}
use Rattle.defs.specs.Distance.{radius, reach}
use Rattle.defs.specs.Pair.{mixed, IsPair}
use Rattle.defs.specs.Limits.{longest}
use Rattle.defs.specs.declared.Code.{Code}
use Rattle.theory.proofs.Order.{lt_or_le, eq_lt}
use Rattle.theory.proofs.Place.{length_tab, get_d_tab}
use Rattle.code.specs.Checked.{points_of, IsCode}
use Rattle.code.proofs.Outcome.{is_code}
use Rattle.code.proofs.Known.{code_numbers}
use Rattle.solve.specs.Table.{at}
use Rattle.solve.specs.System.{Matrix, dot, Solves, free}
use Rattle.solve.specs.Answer.{IsFree, IsFull}
use Rattle.pair.specs.Fill.{System}
use Rattle.pair.specs.Found.{IsRow, Found}
use Rattle.pair.proofs.Expand.{Joined, row_mixed}
use Rattle.pair.proofs.Systems.{chunk_fits}

-- what holds of the elements of a list, and of 0, holds at every index
each : (P : ℕ → Type 0) (s : List ℕ) → P 0 → ((i : ℕ) → i < length s → P (get_or s i 0)) → (i : ℕ) → P (get_or s i 0)
each P s z h i = ⊎_elim (λ l. h i l) (λ (l : length s ≤ i). subst P (sym (get_or-eq_default s 0 l)) z) (lt_or_le i (length s))

module _ {m r s₀ s₁ : ℕ} (k : ℕ) {points w t : List ℕ} (S : System m r s₀ s₁ (length points) points w t) (e₀ : s₀ ≡ (r * length points + k) / 2) (e₁ : s₁ ≡ suc (reach r k points)) where
  module _ {x : ℕ → ℕ} {Q₀ Q₁ : List ℕ} (J : Joined s₀ s₁ x Q₀ Q₁) where
    -- row i * r + j times the unknowns is the coefficient j at point i
    at_depth : Symbols m Q₀ → Symbols m Q₁ → (i j : ℕ) → i < length points → j < r → dot m (at t) (s₀ + s₁) (i * r + j) x ≡ mixed m r points w Q₀ Q₁ i j
    at_depth o₀ o₁ i j l h = row_mixed m r i j points w (at t (i * r + j)) x h o₀ o₁ J (S.rows i l j h)

    pub pair_solved : (c : ℕ) → ((j : ℕ) → x j < 2 ^ m) → c < s₀ + s₁ → x c ≡ 1 → Solves m (at t) (r * length points) (s₀ + s₁) x → IsPair m r k points w Q₀ Q₁
    pair_solved c hx below one solves = record {
      size₀ = J.size₀ ∙ e₀;
      size₁ = J.size₁ ∙ e₁;
      symbols₀ = o₀;
      symbols₁ = o₁;
      nonzero = λ z₀ z₁.
          let is_zero : x c ≡ 0 =
          ⊎_elim
          (λ l. J.first c l ∙ z₀ c)
          (λ (l : s₀ ≤ c).
          let e : c ≡ s₀ + (c - s₀) = omega arith in
          ap x e ∙ J.second (c - s₀) (omega arith) ∙ z₁ (c - s₀))
          (lt_or_le c s₀) in
          omega arith;
      vanishes = λ i l j h. sym (at_depth o₀ o₁ i j l h) ∙ solves (i * r + j) (omega (arith, chunk_fits r i (length points) l));
    }
      where
        o₀ : Symbols m Q₀
        o₀ = each (λ y. y < 2 ^ m) Q₀ (pow_pos m) (λ i l. eq_lt (sym (J.first i (omega (arith, J.size₀)))) (hx i))

        o₁ : Symbols m Q₁
        o₁ = each (λ y. y < 2 ^ m) Q₁ (pow_pos m) (λ i l. eq_lt (sym (J.second i (omega (arith, J.size₁)))) (hx (s₀ + i)))

    -- row q is row q / r * r + q % r
    solves_pair : IsPair m r k points w Q₀ Q₁ → 0 < r → Solves m (at t) (r * length points) (s₀ + s₁) x
    solves_pair p pos q l =
        ap (λ (n : ℕ). dot m (at t) (s₀ + s₁) n x) (sym (div-add-mod' q r))
        ∙ at_depth p.symbols₀ p.symbols₁ (q / r) (q % r) low (mod-lt q pos) ∙ p.vanishes (q / r) low (q % r) (mod-lt q pos)
      where
        low : q / r < length points
        low = (div-lt_iff_lt-mul pos).1 (omega (arith, mul_comm r (length points)))

  pub pair_none : 0 < r → IsFull m (r * length points) (s₀ + s₁) (at t) → (Q₀ Q₁ : List ℕ) → IsPair m r k points w Q₀ Q₁ → ⊥
  pair_none pos full Q₀ Q₁ p =
      p.nonzero
      (each (λ y. y ≡ 0) Q₀ refl (λ i l. sym (J.first i (omega (arith, J.size₀))) ∙ all_zero i (omega (arith, J.size₀))))
      (each (λ y. y ≡ 0) Q₁ refl (λ i l. sym (J.second i (omega (arith, J.size₁))) ∙ all_zero (s₀ + i) (omega (arith, J.size₁))))
    where
      x : ℕ → ℕ
      x c = get_or (Q₀ ++ Q₁) c 0

      J : Joined s₀ s₁ x Q₀ Q₁
      J =
          let n₀ : length Q₀ ≡ s₀ = p.size₀ ∙ sym e₀ in
          let n₁ : length Q₁ ≡ s₁ = p.size₁ ∙ sym e₁ in
          record {
            size₀ = n₀;
            size₁ = n₁;
            first = λ a l. get_or-append Q₀ Q₁ 0 a (omega arith);
            second = λ a l. ap (λ (n : ℕ). get_or (Q₀ ++ Q₁) (n + a) 0) (sym n₀) ∙ get_or-append-add Q₀ Q₁ a 0;
          }

      low : (c : ℕ) → x c < 2 ^ m
      low c =
          ⊎_elim
          (λ l. eq_lt (get_or-append Q₀ Q₁ 0 c l) (p.symbols₀ c))
          (λ (l : length Q₀ ≤ c).
          let e : c ≡ length Q₀ + (c - length Q₀) = omega arith in
          eq_lt (ap (λ (n : ℕ). get_or (Q₀ ++ Q₁) n 0) e ∙ get_or-append-add Q₀ Q₁ (c - length Q₀) 0) (p.symbols₁ (c - length Q₀)))
          (lt_or_le c (length Q₀))

      all_zero : (c : ℕ) → c < s₀ + s₁ → x c ≡ 0
      all_zero = full x low (solves_pair J p pos)

-- the unknowns that the tables of x hold
tabs_joined : (x : ℕ → ℕ) (s₀ s₁ : ℕ) → Joined s₀ s₁ x (tab (λ a. x (0 + a)) s₀) (tab (λ a. x (s₀ + a)) s₁)
tabs_joined x s₀ s₁ = record {
  size₀ = length_tab _ s₀;
  size₁ = length_tab _ s₁;
  first = λ a l. ap x (sym (zero-add a)) ∙ sym (get_d_tab (λ i. x (0 + i)) s₀ a l);
  second = λ a l. sym (get_d_tab (λ i. x (s₀ + i)) s₁ a l);
}

pub enough : {c : Code} {w : List ℕ} → IsRow c w → c.k ≤ length w
enough {c} W = omega (arith, (code_numbers (is_code c)).k_top, W.size)

pub short : {c : Code} {w : List ℕ} → IsRow c w → length w ≤ longest
short {c} W = omega (arith, (code_numbers (is_code c)).row_top, W.size)

-- s₀ and s₁ are the numbers that formula 9 allows
module _ {c : Code} {w : List ℕ} (W : IsRow c w) {s₀ s₁ : ℕ} (e₀ : s₀ ≡ (length w + c.k) / 2) (e₁ : s₁ ≡ suc (radius (length w) c.k)) where
  abbrev C : IsCode c
  C = is_code c

  abbrev points : List ℕ
  points = points_of c

  rows_are : length w ≡ c.r * length points
  rows_are = W.size ∙ ap (λ (n : ℕ). c.r * n) (sym C.counted)

  size₀ : s₀ ≡ (c.r * length points + c.k) / 2
  size₀ = e₀ ∙ ap (λ (n : ℕ). (n + c.k) / 2) rows_are

  size₁ : s₁ ≡ suc (reach c.r c.k points)
  size₁ = e₁ ∙ ap (λ (n : ℕ). suc (radius n c.k)) rows_are

  module _ {table : List ℕ} (S : System c.m c.r s₀ s₁ c.count points w table) where
    all_rows : System c.m c.r s₀ s₁ (length points) points w table
    all_rows = subst (λ (n : ℕ). System c.m c.r s₀ s₁ n points w table) (sym C.counted) S

    pub found_pair : {N : Matrix} (q₀ q₁ : List ℕ) {f : ℕ} → IsFree c.m (length w) (s₀ + s₁) (at table) N f
        → take s₀ q₀ ≡ tab (λ a. free N f (0 + a)) s₀ → take s₁ q₁ ≡ tab (λ a. free N f (s₀ + a)) s₁
        → IsPair c.m c.r c.k points w (take s₀ q₀) (take s₁ q₁)
    found_pair {N} q₀ q₁ {f} F h₀ h₁ =
        rw (h₀, h₁)
        (pair_solved c.k all_rows size₀ size₁ (tabs_joined (free N f) s₀ s₁) f F.symbols F.below F.one
        (subst (λ (n : ℕ). Solves c.m (at table) n (s₀ + s₁) (free N f)) rows_are F.solves))

    pub found_none : IsFull c.m (length w) (s₀ + s₁) (at table) → Found c.m c.r c.k points w None
    found_none F =
        pair_none c.k all_rows size₀ size₁ (code_numbers C).r_pos (subst (λ (n : ℕ). IsFull c.m n (s₀ + s₁) (at table)) rows_are F)
