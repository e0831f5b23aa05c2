-- The Hasse coefficients are linear.
use Prim.Native.Nat.{ℕ, zero, suc, ◌^◌, ◌<◌}
use mathlib.Core.Path.{◌≡◌, refl, ap, sym, ◌∙◌}
use mathlib.Core.List.{List, [], ◌∷◌}
use lib.ListN.{get_or}
use lib.Pow.{pow_pos}
use Rattle.defs.specs.Field.{add, mul}
use Rattle.defs.specs.Place.{Symbols}
use Rattle.defs.specs.Pair.{Zero}
use Rattle.theory.specs.Poly.{h, padd, scale}
use Rattle.theory.specs.Vanish.{Same}
use Rattle.theory.proofs.Field.{ring, 0-add, add_0, add_self, add_lt, mul_lt, add_again, add_comm}

-- a sum is 0 only where its parts are equal
pub add_eq : (a b : ℕ) → add a b ≡ 0 → a ≡ b
add_eq a b e = sym (add_again b a) ∙ ap (add b) (add_comm b a ∙ e) ∙ add_0 b

pub get_d_padd : (f g : List ℕ) (i : ℕ) → get_or (padd f g) i 0 ≡ add (get_or f i 0) (get_or g i 0)
unfolding padd
get_d_padd [] g i = sym (0-add _)
get_d_padd (a ∷ f) [] i = sym (add_0 _)
get_d_padd (a ∷ f) (b ∷ g) zero = refl
get_d_padd (a ∷ f) (b ∷ g) (suc i) = get_d_padd f g i

pub padd_zero : (f g : List ℕ) → Same f g → Zero (padd f g)
padd_zero f g e i = get_d_padd f g i ∙ rw (e i) (add_self _)

pub zero_same : (f g : List ℕ) → Zero (padd f g) → Same f g
zero_same f g z i = add_eq _ _ (sym (get_d_padd f g i) ∙ z i)

module _ (m P : ℕ) where
  pub h_padd : (j : ℕ) (f g : List ℕ) → h m P j (padd f g) ≡ add (h m P j f) (h m P j g)
  unfolding h padd
  h_padd j [] g = simp 0-add
  h_padd j (a ∷ f) [] = simp ring
  h_padd zero (a ∷ f) (b ∷ g) = rw (h_padd zero f g) (simp ring)
  h_padd (suc j) (a ∷ f) (b ∷ g) = rw (h_padd j f g, h_padd (suc j) f g) (simp ring)

  scaled : (c a x : ℕ) → add (mul m c a) (mul m P (mul m c x)) ≡ mul m c (add a (mul m P x))
  scaled c a x = simp ring

  pub h_scale : (j c : ℕ) (f : List ℕ) → h m P j (scale m c f) ≡ mul m c (h m P j f)
  unfolding h scale
  h_scale j c [] = simp ring
  h_scale zero c (a ∷ f) = rw (h_scale zero c f) (scaled c a _)
  h_scale (suc j) c (a ∷ f) = rw (h_scale j c f, h_scale (suc j) c f) (scaled c _ _)

  pub h_zero : (j : ℕ) (f : List ℕ) → Zero f → h m P j f ≡ 0
  unfolding h
  h_zero j [] z = refl
  h_zero zero (c ∷ f) z = rw (z 0, h_zero zero f (λ i. z (suc i))) (simp ring)
  h_zero (suc j) (c ∷ f) z = rw (h_zero j f (λ i. z (suc i)), h_zero (suc j) f (λ i. z (suc i))) (simp ring)

  -- they depend on the coefficients alone
  pub h_same : (j : ℕ) (f g : List ℕ) → Same f g → h m P j f ≡ h m P j g
  h_same j f g e = add_eq _ _ (sym (h_padd j f g) ∙ h_zero j (padd f g) (padd_zero f g e))

  pub h_lt : (j : ℕ) (f : List ℕ) → Symbols m f → h m P j f < 2 ^ m
  unfolding h
  h_lt j [] o = pow_pos m
  h_lt zero (c ∷ f) o = add_lt m _ _ (o 0) (mul_lt m _ _)
  h_lt (suc j) (c ∷ f) o = add_lt m _ _ (h_lt j f (λ i. o (suc i))) (mul_lt m _ _)
