-- An equation is the product of its row and the unknowns.
use Prim.Native.Nat.{ℕ, zero, suc, ◌+◌, ◌-◌, ◌<◌, min}
use mathlib.Core.Path.{◌≡◌, refl, ap, ap₂, sym, ◌∙◌}
use mathlib.Core.List.{List, [], ◌∷◌}
use native.Mathlib.Omega.{arith}
use lib.ListN.{length, get_or}
use Rattle.defs.specs.Field.{add, mul}
use Rattle.defs.specs.Place.{Symbols}
use Rattle.defs.specs.Row.{sum, coefficient}
use Rattle.defs.specs.Distance.{symbol}
use Rattle.defs.specs.Pair.{mixed}
use Rattle.theory.specs.Poly.{h}
use Rattle.theory.proofs.Field.{ring, mul_assoc, mul_comm, one_mul_of_lt}
use Rattle.theory.proofs.Sum.{sum_ext, sum_add, sum_scale, sum_split, sum_exchange}
use Rattle.theory.proofs.Formula.{coefficient_h}
use Rattle.pair.specs.Equation.{deeper, power_at, mixed_at, Equation}

module _ (m P : ℕ) where
  pascal_term : (e d c : ℕ) → add (mul m e c) (mul m P (mul m d c)) ≡ mul m (add e (mul m P d)) c
  pascal_term e d c = simp ring

  no_term : (c x : ℕ) → x ≡ add (mul m 0 c) x
  no_term c x = simp ring

  -- the coefficient j is linear in the coefficients of f
  expand_h : (j : ℕ) (f : List ℕ) → Symbols m f → h m P j f ≡ sum (length f) (λ a. mul m (power_at (mul m P) j a) (get_or f a 0))
  unfolding h power_at deeper sum
  expand_h j [] o = refl
  expand_h zero (c ∷ f) o =
      ap₂ add (sym (one_mul_of_lt m c (o 0)))
      (ap (mul m P) (expand_h zero f (λ i. o (suc i))) ∙ sym (sum_scale m (length f) P _)
      ∙ sum_ext (length f) _ _ (λ a l. sym (mul_assoc m P _ _)))
  expand_h (suc j) (c ∷ f) o =
      ap₂ add (expand_h j f (λ i. o (suc i)))
      (ap (mul m P) (expand_h (suc j) f (λ i. o (suc i))) ∙ sym (sum_scale m (length f) P _))
      ∙ sym (sum_add (length f) _ _)
      ∙ sum_ext (length f) _ _ (λ a l. pascal_term _ _ _)
      ∙ no_term c _

  expand : {n : ℕ} (j : ℕ) (f : List ℕ) → length f ≡ n → Symbols m f → coefficient m f P j ≡ sum n (λ a. mul m (power_at (mul m P) j a) (get_or f a 0))
  expand j f e o =
      coefficient_h m P j f o ∙ expand_h j f o ∙ ap (λ (i : ℕ). sum i (λ a. mul m (power_at (mul m P) j a) (get_or f a 0))) e

  -- so is that of w · f
  expand_mixed : {n : ℕ} (w : ℕ → ℕ) (r j : ℕ) → j < r → (f : List ℕ) → length f ≡ n → Symbols m f
      → sum (suc j) (λ c. mul m (w c) (coefficient m f P (j - c))) ≡ sum n (λ a. mul m (mixed_at m P w r j a) (get_or f a 0))
  unfolding mixed_at
  expand_mixed {n} w r j l f e o =
      sum_ext (suc j) _ _ (λ c k. ap (mul m (w c)) (expand (j - c) f e o) ∙ sym (sum_scale m n (w c) _))
      ∙ sum_exchange (suc j) n (λ c a. mul m (w c) (mul m (power_at (mul m P) (j - c) a) (get_or f a 0)))
      ∙ sum_ext n _ _ (λ a k. gather a)
    where
      gather : (a : ℕ) → sum (suc j) (λ c. mul m (w c) (mul m (power_at (mul m P) (j - c) a) (get_or f a 0)))
          ≡ mul m (sum (min r (suc j)) (λ c. mul m (w c) (power_at (mul m P) (j - c) a))) (get_or f a 0)
      gather a =
          let d : suc j ≡ min r (suc j) = omega arith in
          sum_ext (suc j) _ _ (λ c k. sym (mul_assoc m (w c) _ _) ∙ mul_comm m _ (get_or f a 0))
          ∙ sum_scale m (suc j) (get_or f a 0) (λ c. mul m (w c) (power_at (mul m P) (j - c) a))
          ∙ mul_comm m (get_or f a 0) _
          ∙ ap (λ (i : ℕ). mul m (sum i (λ c. mul m (w c) (power_at (mul m P) (j - c) a))) (get_or f a 0)) d

-- the unknowns x are s₀ coefficients of Q₀ and then s₁ of Q₁
pub record Joined (s₀ s₁ : ℕ) (x : ℕ → ℕ) (Q₀ Q₁ : List ℕ) : Type 0 where
  pub size₀ : length Q₀ ≡ s₀
  pub size₁ : length Q₁ ≡ s₁
  pub first : (a : ℕ) → a < s₀ → x a ≡ get_or Q₀ a 0
  pub second : (a : ℕ) → a < s₁ → x (s₀ + a) ≡ get_or Q₁ a 0

pub row_mixed : (m r i j : ℕ) (points w : List ℕ) {s₀ s₁ : ℕ} {Q₀ Q₁ : List ℕ} (row x : ℕ → ℕ) → j < r → Symbols m Q₀ → Symbols m Q₁ → Joined s₀ s₁ x Q₀ Q₁
    → Equation m s₀ s₁ (get_or points i 0) (symbol r w i) r j row → sum (s₀ + s₁) (λ c. mul m (row c) (x c)) ≡ mixed m r points w Q₀ Q₁ i j
unfolding mixed
row_mixed m r i j points w {s₀} {s₁} {Q₀} {Q₁} row x l o₀ o₁ J E =
    sum_split s₀ s₁ _
    ∙ ap₂ add
    (sum_ext s₀ _ _ (λ a k. ap₂ (mul m) (E.first a k) (J.first a k)) ∙ sym (expand m P j Q₀ J.size₀ o₀))
    (sum_ext s₁ _ _ (λ a k. ap₂ (mul m) (E.second a k) (J.second a k)) ∙ sym (expand_mixed m P (symbol r w i) r j l Q₁ J.size₁ o₁))
  where
    P : ℕ
    P = get_or points i 0
