-- The coefficients, the lengths and the degrees of sums, multiples and products.
use Prim.Native.Nat.{ℕ, zero, suc, ◌+◌, ◌≤◌, max, zero-le, suc-le-suc}
use mathlib.Core.Path.{◌≡◌, refl, ap, sym, ◌∙◌}
use mathlib.Core.List.{List, [], ◌∷◌}
use native.Mathlib.Omega.{arith}
use lib.ListN.{get_or, length, get_or-eq_default}
use lib.Pow.{pow_pos}
use Rattle.defs.specs.Field.{add, mul}
use Rattle.defs.specs.Place.{Symbols}
use Rattle.defs.specs.Pair.{Zero}
use Rattle.theory.specs.Poly.{padd, scale, pmul}
use Rattle.theory.specs.Vanish.{Deg}
use Rattle.theory.proofs.Field.{ring, add_0, add_lt, mul_0, mul_lt}
use Rattle.theory.proofs.Linear.{get_d_padd}

-- a list of length at most n has a degree below n
pub deg_length : (n : ℕ) (f : List ℕ) → length f ≤ n → Deg n f
deg_length n f l i l' = get_or-eq_default f 0 (omega arith)

pub length_padd : (f g : List ℕ) → length (padd f g) ≡ max (length f) (length g)
unfolding padd
length_padd [] g = omega arith
length_padd (a ∷ f) [] = omega arith
length_padd (a ∷ f) (b ∷ g) = omega (arith, length_padd f g)

pub padd_deg : (n : ℕ) (f g : List ℕ) → Deg n f → Deg n g → Deg n (padd f g)
padd_deg n f g d d' i l = get_d_padd f g i ∙ rw (d i l, d' i l) (add_0 0)

module _ (m : ℕ) where
  pub padd_symbols : (f g : List ℕ) → Symbols m f → Symbols m g → Symbols m (padd f g)
  padd_symbols f g o o' i = rw get_d_padd (add_lt m _ _ (o i) (o' i))

  pub shift_symbols : (f : List ℕ) → Symbols m f → Symbols m (0 ∷ f)
  shift_symbols f o zero = pow_pos m
  shift_symbols f o (suc i) = o i

  pub get_d_scale : (c : ℕ) (f : List ℕ) (i : ℕ) → get_or (scale m c f) i 0 ≡ mul m c (get_or f i 0)
  unfolding scale
  get_d_scale c [] i = sym (mul_0 m c)
  get_d_scale c (a ∷ f) zero = refl
  get_d_scale c (a ∷ f) (suc i) = get_d_scale c f i

  pub length_scale : (c : ℕ) (f : List ℕ) → length (scale m c f) ≡ length f
  unfolding scale
  length_scale c [] = refl
  length_scale c (a ∷ f) = ap suc (length_scale c f)

  pub scale_symbols : (c : ℕ) (f : List ℕ) → Symbols m (scale m c f)
  scale_symbols c f i = rw get_d_scale (mul_lt m _ _)

  pub pmul_symbols : (f g : List ℕ) → Symbols m (pmul m f g)
  unfolding pmul
  pmul_symbols [] g = λ i. pow_pos m
  pmul_symbols (a ∷ f) g = padd_symbols _ _ (scale_symbols a g) (shift_symbols (pmul m f g) (pmul_symbols f g))

  pub pmul_head : (a : ℕ) (f g : List ℕ) → get_or (pmul m (a ∷ f) g) 0 0 ≡ mul m a (get_or g 0 0)
  unfolding pmul
  pmul_head a f g = rw (get_d_padd, get_d_scale) (add_0 _)

  pub pmul_tail : (a : ℕ) (f g : List ℕ) (i : ℕ) → get_or (pmul m (a ∷ f) g) (suc i) 0 ≡ add (mul m a (get_or g (suc i) 0)) (get_or (pmul m f g) i 0)
  unfolding pmul
  pmul_tail a f g i = rw (get_d_padd, get_d_scale)

  none : (a x y : ℕ) → x ≡ 0 → y ≡ 0 → add (mul m a x) y ≡ 0
  none a x y e e' = rw (e, e') (simp ring)

  gone : (a x y : ℕ) → a ≡ 0 → y ≡ 0 → add (mul m a x) y ≡ 0
  gone a x y e e' = rw (e, e') (simp ring)

  pmul_zero : (f g : List ℕ) → Zero f → Zero (pmul m f g)
  unfolding pmul
  pmul_zero [] g z i = refl
  pmul_zero (a ∷ f) g z zero = pmul_head a f g ∙ sym (add_0 _) ∙ gone a _ 0 (z 0) refl
  pmul_zero (a ∷ f) g z (suc i) = pmul_tail a f g i ∙ gone a _ _ (z 0) (pmul_zero f g (λ k. z (suc k)) i)

  -- degrees below n and at most d give a degree below n + d
  pub pmul_deg : (n d : ℕ) (f g : List ℕ) → Deg n f → Deg (suc d) g → Deg (n + d) (pmul m f g)
  unfolding pmul
  pmul_deg n d [] g u v i l = refl
  pmul_deg zero d (a ∷ f) g u v i l = pmul_zero (a ∷ f) g (λ k. u k zero-le) i
  pmul_deg (suc n) d (a ∷ f) g u v zero l = absurd (omega arith)
  pmul_deg (suc n) d (a ∷ f) g u v (suc i) l =
      pmul_tail a f g i ∙ none a _ _ (v (suc i) (omega arith)) (pmul_deg n d f g (λ k l'. u (suc k) (suc-le-suc l')) v i (omega arith))
