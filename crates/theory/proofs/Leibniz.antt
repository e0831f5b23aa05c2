-- The product rule: the coefficient j of f·g is the sum over a ≤ j of those at a of f and at j - a of g.
use Prim.Native.Nat.{ℕ, zero, suc}
use mathlib.Core.Path.{◌≡◌, sym, ◌∙◌}
use mathlib.Core.List.{List, [], ◌∷◌}
use Rattle.defs.specs.Field.{add, mul}
use Rattle.theory.specs.Poly.{h, pmul}
use Rattle.theory.specs.Key.{conv}
use Rattle.theory.proofs.Field.{ring}
use Rattle.theory.proofs.Sum.{conv_zero, conv_suc, conv_combine, conv_none}
use Rattle.theory.proofs.Linear.{h_padd, h_scale}

module _ (m P : ℕ) where
  step_zero : (a x y z : ℕ) → z ≡ mul m x y → add (mul m a y) (add 0 (mul m P z)) ≡ mul m (add a (mul m P x)) y
  step_zero a x y z e = rw e (simp ring)

  step_suc : (a x y c d z w : ℕ) → z ≡ c → w ≡ add (mul m x y) d
      → add (mul m a y) (add z (mul m P w)) ≡ add (mul m (add a (mul m P x)) y) (add c (mul m P d))
  step_suc a x y c d z w e e' = rw (e, e') (simp ring)

  pub leibniz : (j : ℕ) (f g : List ℕ) → h m P j (pmul m f g) ≡ conv m j (λ a. h m P a f) (λ a. h m P a g)
  unfolding h pmul
  leibniz j [] g = sym (conv_none m j _)
  leibniz zero (a ∷ f) g = rw (h_padd, h_scale, conv_zero) (step_zero a _ _ _ (leibniz zero f g ∙ conv_zero m _ _))
  leibniz (suc j) (a ∷ f) g =
      rw (h_padd, h_scale, conv_suc, conv_combine m j P (λ k. h m P k f) (λ k. h m P (suc k) f))
      (step_suc a _ _ _ _ _ _ (leibniz j f g) (leibniz (suc j) f g ∙ conv_suc m _ _ _))
