-- Rows of chunks with a depth each: their distance is symmetric, has the triangle inequality, and with the agreement makes up the total depth.
use Prim.Native.Nat.{ℕ, ◌+◌, ◌-◌, ◌<◌, ◌≤◌}
use mathlib.Core.Path.{◌≡◌, sym, ◌∙◌}
use native.Mathlib.Omega.{arith}
use Rattle.defs.specs.Place.{total}
use Rattle.defs.specs.Distance.{agree}
use Rattle.theory.specs.Chunks.{agreement, apart}
use Rattle.theory.proofs.Place.{total_ext, total_mono, total_sum}
use Rattle.theory.proofs.Agree.{agree_le, agree_sym, agree_min, agree_ext}

module _ (n : ℕ) (r : ℕ → ℕ) where
  pub apart_sym : (U W : ℕ → ℕ → ℕ) → apart n r U W ≡ apart n r W U
  unfolding apart
  apart_sym U W = total_ext n _ _ (λ i l. rw (agree_sym (r i) (U i) (W i)))

  pub apart_triangle : (U W X : ℕ → ℕ → ℕ) → apart n r U X ≤ apart n r U W + apart n r W X
  unfolding apart
  apart_triangle U W X =
      let d : (ℕ → ℕ → ℕ) → (ℕ → ℕ → ℕ) → ℕ → ℕ = λ U W i. r i - agree (r i) (U i) (W i) in
      omega (
        arith,
        total_mono n (d U X) (λ i. d U W i + d W X i) (λ i l. omega (arith, agree_min (r i) (U i) (W i) (X i))),
        total_sum n (d U W) (d W X),
      )

  pub apart_agreement : (U W : ℕ → ℕ → ℕ) → apart n r U W + agreement n r U W ≡ total n r
  unfolding apart agreement
  apart_agreement U W =
      sym (total_sum n (λ i. r i - agree (r i) (U i) (W i)) (λ i. agree (r i) (U i) (W i)))
      ∙ total_ext n _ r (λ i l. omega (arith, agree_le (r i) (U i) (W i)))

  module _ (U U' W W' : ℕ → ℕ → ℕ) (e : (i : ℕ) → i < n → (j : ℕ) → j < r i → U i j ≡ U' i j) (e' : (i : ℕ) → i < n → (j : ℕ) → j < r i → W i j ≡ W' i j) where
    pub agreement_ext : agreement n r U W ≡ agreement n r U' W'
    unfolding agreement
    agreement_ext = total_ext n _ _ (λ i l. agree_ext (r i) (U i) (U' i) (W i) (W' i) (e i l) (e' i l))

    pub apart_ext : apart n r U W ≡ apart n r U' W'
    unfolding apart
    apart_ext = total_ext n _ _ (λ i l. rw (agree_ext (r i) (U i) (U' i) (W i) (W' i) (e i l) (e' i l)))
