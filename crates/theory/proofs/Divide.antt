-- Synthetic division by x - P: what the quotient's Hasse coefficients are at P and at other points, and what it keeps.
use Prim.Native.Nat.{ℕ, zero, suc, zero-le, suc-le-suc}
use mathlib.Core.Path.{◌≡◌, refl, sym, ◌∙◌}
use mathlib.Core.List.{List, [], ◌∷◌}
use native.Mathlib.Nat.{le_of_suc-le-suc, not-suc-le-zero}
use lib.Pow.{pow_pos}
use Rattle.defs.specs.Field.{add, mul}
use Rattle.defs.specs.Place.{Symbols}
use Rattle.defs.specs.Pair.{Zero}
use Rattle.theory.specs.Poly.{h, quot}
use Rattle.theory.specs.Vanish.{Deg}
use Rattle.theory.proofs.Field.{ring}
use Rattle.theory.proofs.Linear.{h_zero, h_lt}

module _ (m P : ℕ) where
  -- at P the quotient's coefficients are f's, one place down
  pub h_quot : (j : ℕ) (f : List ℕ) → h m P j (quot m P f) ≡ h m P (suc j) f
  unfolding h quot
  h_quot j [] = refl
  h_quot zero (c ∷ f) = rw (h_quot zero f)
  h_quot (suc j) (c ∷ f) = rw (h_quot j f, h_quot (suc j) f)

  -- f = f(P) + (x - P) · quot m P f, read at another point P', where x - P is (P' - P) + (x - P')
  module _ (P' : ℕ) where
    abbrev far : ℕ → ℕ
    far x = mul m (add P' P) x

    zero_step : (c a b q : ℕ) → b ≡ add a (far q) → add c (mul m P' b) ≡ add (add c (mul m P a)) (far (add a (mul m P' q)))
    zero_step c a b q e = rw e (simp ring)

    one_step : (a b d q r : ℕ) → b ≡ add a (far q) → d ≡ add (far r) q
        → add b (mul m P' d) ≡ add (far (add q (mul m P' r))) (add a (mul m P' q))
    one_step a b d q r e e' = rw (e, e') (simp ring)

    more_step : (b d q r s : ℕ) → b ≡ add (far r) q → d ≡ add (far s) r
        → add b (mul m P' d) ≡ add (far (add r (mul m P' s))) (add q (mul m P' r))
    more_step b d q r s e e' = rw (e, e') (simp ring)

    pub h_divide_zero : (f : List ℕ) → h m P' 0 f ≡ add (h m P 0 f) (far (h m P' 0 (quot m P f)))
    unfolding h quot
    h_divide_zero [] = simp ring
    h_divide_zero (c ∷ f) = zero_step c _ _ _ (h_divide_zero f)

    pub h_divide_suc : (j : ℕ) (f : List ℕ) → h m P' (suc j) f ≡ add (far (h m P' (suc j) (quot m P f))) (h m P' j (quot m P f))
    unfolding h quot
    h_divide_suc j [] = simp ring
    h_divide_suc zero (c ∷ f) = one_step _ _ _ _ _ (h_divide_zero f) (h_divide_suc zero f)
    h_divide_suc (suc j) (c ∷ f) = more_step _ _ _ _ _ (h_divide_suc j f) (h_divide_suc (suc j) f)

  pub quot_symbols : (f : List ℕ) → Symbols m f → Symbols m (quot m P f)
  unfolding quot
  quot_symbols [] o i = pow_pos m
  quot_symbols (c ∷ f) o zero = h_lt m P 0 f (λ k. o (suc k))
  quot_symbols (c ∷ f) o (suc i) = quot_symbols f (λ k. o (suc k)) i

  pub quot_deg : (n : ℕ) (f : List ℕ) → Deg (suc n) f → Deg n (quot m P f)
  unfolding quot
  quot_deg n [] d i l = refl
  quot_deg zero (c ∷ f) d zero l = h_zero m P 0 f (λ i. d (suc i) (suc-le-suc zero-le))
  quot_deg zero (c ∷ f) d (suc i) l = quot_deg zero f (λ k l'. d (suc k) (suc-le-suc zero-le)) i zero-le
  quot_deg (suc n) (c ∷ f) d zero l = absurd (not-suc-le-zero l)
  quot_deg (suc n) (c ∷ f) d (suc i) l = quot_deg n f (λ k l'. d (suc k) (suc-le-suc l')) i (le_of_suc-le-suc l)

  root_head : (c x : ℕ) → add c (mul m P x) ≡ 0 → x ≡ 0 → c ≡ 0
  root_head c x r z =
      let e : add c (mul m P x) ≡ c = rw z (simp ring) in
      sym e ∙ r

  -- a polynomial with the root P and the quotient 0 is 0
  pub quot_zero : (f : List ℕ) → h m P 0 f ≡ 0 → Zero (quot m P f) → Zero f
  unfolding h quot
  quot_zero [] r z i = refl
  quot_zero (c ∷ f) r z zero = root_head c _ r (z 0)
  quot_zero (c ∷ f) r z (suc i) = quot_zero f (z 0) (λ k. z (suc k)) i
