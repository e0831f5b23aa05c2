-- Long division from the top: where a polynomial is f·g, the remainder at turn i is the product of g with the part of f below i.
use Prim.Native.Nat.{ℕ, zero, suc, ◌+◌, ◌-◌, ◌^◌, ◌<◌}
use mathlib.Core.Path.{◌≡◌, refl, ap, sym, subst, ◌∙◌}
use mathlib.Core.List.{List, [], ◌∷◌}
use native.Mathlib.Nat.{not-suc-le-zero, le_of_suc-le-suc, suc-add, zero-add}
use native.Mathlib.Decide.{dec_lt}
use native.Mathlib.Omega.{arith}
use lib.ListN.{length, get_or, take, length-take}
use lib.Seq.{take_all}
use Rattle.defs.specs.Field.{add, mul}
use Rattle.theory.specs.Poly.{pmul}
use Rattle.theory.specs.Vanish.{Deg, Same}
use Rattle.theory.specs.Quotient.{Remains}
use Rattle.theory.proofs.Field.{sums, ring, 0-add, add_0, mul_assoc, mul_comm, one_mul_of_lt}
use Rattle.theory.proofs.Multiply.{deg_length, pmul_head, pmul_tail, pmul_deg}

module _ (m : ℕ) (g : List ℕ) where
  single : (a y : ℕ) → get_or (pmul m (a ∷ []) g) y 0 ≡ mul m a (get_or g y 0)
  unfolding pmul
  single a zero = pmul_head m a [] g
  single a (suc y) = pmul_tail m a [] g y ∙ add_0 _

  -- one coefficient of f more does not count below it
  below : (f : List ℕ) (i x : ℕ) → x < i → get_or (pmul m (take (suc i) f) g) x 0 ≡ get_or (pmul m (take i f) g) x 0
  below f zero x l = absurd (not-suc-le-zero l)
  below [] (suc i) x l = refl
  below (a ∷ f) (suc i) zero l = pmul_head m a (take (suc i) f) g ∙ sym (pmul_head m a (take i f) g)
  below (a ∷ f) (suc i) (suc x) l =
      pmul_tail m a (take (suc i) f) g x ∙ ap (add (mul m a (get_or g (suc x) 0))) (below f i x (le_of_suc-le-suc l))
      ∙ sym (pmul_tail m a (take i f) g x)

  step : (a b c d e p q : ℕ) → p ≡ add a b → q ≡ add a d → b ≡ add d (mul m c e) → p ≡ add q (mul m c e)
  step a b c d e p q u v z = rw (u, v, z) (simp sums)

  -- and from its place on g counts once more
  above : (f : List ℕ) (i y : ℕ)
      → get_or (pmul m (take (suc i) f) g) (i + y) 0 ≡ add (get_or (pmul m (take i f) g) (i + y) 0) (mul m (get_or f i 0) (get_or g y 0))
  unfolding pmul
  above [] zero y = simp ring
  above [] (suc i) y = simp ring
  above (a ∷ f) zero y = rw zero-add (single a y ∙ sym (0-add _))
  above (a ∷ f) (suc i) y =
      rw suc-add (step _ _ (get_or f i 0) _ _ _ _ (pmul_tail m a (take (suc i) f) g (i + y)) (pmul_tail m a (take i f) g (i + y)) (above f i y))

  module _ (f : List ℕ) where
    pub remains_first : (Q : List ℕ) (k : ℕ) → length f ≡ k → Same Q (pmul m f g) → Remains m f g k (λ x. get_or Q x 0)
    remains_first Q k e s x = rw (take_all k f (omega arith)) (s x)

    -- the top of the remainder, where d is the degree of g
    pub remains_top : (d i : ℕ) (rem : ℕ → ℕ) → Deg (suc d) g → Remains m f g (suc i) rem → rem (i + d) ≡ mul m (get_or f i 0) (get_or g d 0)
    remains_top d i rem v c =
        c (i + d) ∙ above f i d
        ∙ rw (pmul_deg m i d (take i f) g (deg_length i (take i f) (omega (arith, length-take i f))) v (i + d) (omega arith)) (0-add _)

    -- what divides it by g's top coefficient finds the coefficient of f
    pub remains_found : (d i v : ℕ) (rem : ℕ → ℕ) → Deg (suc d) g → Remains m f g (suc i) rem → get_or f i 0 < 2 ^ m → mul m (get_or g d 0) v ≡ 1
        → mul m (rem (i + d)) v ≡ get_or f i 0
    remains_found d i v rem deg c o e =
        ap (λ (x : ℕ). mul m x v) (remains_top d i rem deg c) ∙ mul_assoc m _ _ v ∙ ap (mul m (get_or f i 0)) e ∙ mul_comm m _ 1 ∙ one_mul_of_lt m _ o

    again : (a b c d : ℕ) → a ≡ add b c → b ≡ add d c → a ≡ d
    again a b c d e e' = rw (e, e') (simp sums)

    -- a turn: the coefficient times g is taken away, i places up
    pub remains_turn : (i : ℕ) (rem rem' : ℕ → ℕ) → Remains m f g (suc i) rem
        → ((x : ℕ) → x < i → rem' x ≡ rem x) → ((y : ℕ) → rem' (i + y) ≡ add (rem (i + y)) (mul m (get_or f i 0) (get_or g y 0))) → Remains m f g i rem'
    remains_turn i rem rem' c u v x = go (dec_lt x i)
      where
        go : Dec (x < i) → rem' x ≡ get_or (pmul m (take i f) g) x 0
        go (yes l) = u x l ∙ c x ∙ below f i x l
        go (no l) =
            let e : i + (x - i) ≡ x = omega arith in
            subst (λ (z : ℕ). rem' z ≡ get_or (pmul m (take i f) g) z 0) e
            (again _ _ _ _ (v (x - i)) (c (i + (x - i)) ∙ above f i (x - i)))
