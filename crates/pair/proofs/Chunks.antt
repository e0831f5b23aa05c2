-- The equations of one chunk: the depths at its point, and then its symbols' multiples of them, added one after another.
use Prim.Native.Nat.{ℕ, suc, ◌+◌, ◌*◌, ◌-◌, ◌<◌, ◌≤◌, min}
use mathlib.Core.Path.{◌≡◌, ap, ap₂, sym, subst, ◌∙◌}
use mathlib.Core.Logic.{⊎_elim}
use mathlib.Core.List.{List}
use native.Mathlib.Numerals.{add-one}
use native.Mathlib.Omega.{arith}
use lib.ListN.{length, get_or}
use Rattle.defs.specs.Field.{add, mul}
use Rattle.defs.specs.Row.{sum}
use Rattle.theory.proofs.Order.{lt_or_le}
use Rattle.theory.proofs.Sum.{sum_ext, sum_last}
use Rattle.solve.specs.Table.{stride, at}
use Rattle.pair.specs.Equation.{power_at, mixed_at}
use Rattle.pair.specs.Fill.{Powers, Added, Chunk}

module _ (m P : ℕ) (w : ℕ → ℕ) where
  mixed_none : (j a : ℕ) → mixed_at m P w 0 j a ≡ 0
  unfolding mixed_at sum
  mixed_none j a = let e : min 0 (suc j) ≡ 0 = omega arith in ap (λ (n : ℕ). sum n (λ c. mul m (w c) (power_at (mul m P) (j - c) a))) e

  mixed_more : (b j a : ℕ) → b ≤ j → mixed_at m P w (b + 1) j a ≡ add (mixed_at m P w b j a) (mul m (w b) (power_at (mul m P) (j - b) a))
  unfolding mixed_at
  mixed_more b j a l =
      let e : min (b + 1) (suc j) ≡ b + 1 = omega arith in
      let d : b ≡ min b (suc j) = omega arith in
      let F : ℕ → ℕ = λ c. mul m (w c) (power_at (mul m P) (j - c) a) in
      ap (λ (n : ℕ). sum n F) e ∙ ap (λ (n : ℕ). sum n F) (add-one b) ∙ sum_last b F ∙ ap (λ (n : ℕ). add (sum n F) (F b)) d

  mixed_past : (b j a : ℕ) → j < b → mixed_at m P w (b + 1) j a ≡ mixed_at m P w b j a
  unfolding mixed_at
  mixed_past b j a l =
      let e : min (b + 1) (suc j) ≡ min b (suc j) = omega arith in
      ap (λ (n : ℕ). sum n (λ c. mul m (w c) (power_at (mul m P) (j - c) a))) e

-- only the symbols before b count
pub mixed_same : (m P : ℕ) (w w' : ℕ → ℕ) (b j a : ℕ) → ((c : ℕ) → c < b → w c ≡ w' c) → mixed_at m P w b j a ≡ mixed_at m P w' b j a
unfolding mixed_at
mixed_same m P w w' b j a e = sum_ext (min b (suc j)) _ _ (λ c l. ap (λ (x : ℕ). mul m x (power_at (mul m P) (j - c) a)) (e c (omega arith)))

module _ {m r s₀ s₁ P : ℕ} {w : ℕ → ℕ} (fits : s₀ + s₁ ≤ stride) where
  pub chunk_first : {t₀ t : List ℕ} → length t₀ ≡ r * stride → ((k : ℕ) → get_or t₀ k 0 ≡ 0) → Powers m P r s₀ t₀ t → Chunk m r s₀ s₁ P w 0 t
  chunk_first {t₀} {t} size zero W = record {
    size = W.size ∙ size;
    symbols = W.symbols;
    rows = λ j l.
        record {
          first = λ a h. W.inside j a l h;
          second = λ a h. W.outside (j * stride + (s₀ + a)) (λ i b o g e. omega arith) ∙ zero _ ∙ sym (mixed_none m P w j a);
        };
  }

  pub chunk_more : {t t' : List ℕ} (b : ℕ) → s₁ ≤ s₀ → Chunk m r s₀ s₁ P w b t → Added m (w b) b r s₀ s₁ t t' → Chunk m r s₀ s₁ P w (b + 1) t'
  chunk_more {t} {t'} b small C A = record {
    size = A.size ∙ C.size;
    symbols = A.symbols;
    rows = λ j h. record { first = λ a g. A.outside (j * stride + a) (λ i c n l o e. omega arith) ∙ (C.rows j h).first a g; second = second j h };
  }
    where
      second : (j : ℕ) → j < r → (a : ℕ) → a < s₁ → at t' j (s₀ + a) ≡ mixed_at m P w (b + 1) j a
      second j h a g =
          ⊎_elim
          (λ o. A.outside (j * stride + (s₀ + a)) (λ i c n l q e. omega arith) ∙ (C.rows j h).second a g ∙ sym (mixed_past m P w b j a o))
          (λ o.
          A.inside j a o h g ∙ ap₂ add ((C.rows j h).second a g) (ap (mul m (w b)) ((C.rows (j - b) (omega arith)).first a (omega arith)))
          ∙ sym (mixed_more m P w b j a o))
          (lt_or_le j b)

pub chunk_all : {m r s₀ s₁ P : ℕ} {w : ℕ → ℕ} {b d : ℕ} {t : List ℕ} → b ≡ d → Chunk m r s₀ s₁ P w b t → Chunk m r s₀ s₁ P w d t
chunk_all {m} {r} {s₀} {s₁} {P} {w} {b} {d} {t} h C = subst (λ (i : ℕ). Chunk m r s₀ s₁ P w i t) h C
