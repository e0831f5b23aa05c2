-- Formula (2) of the paper is what the recursion h computes.
use Prim.Native.Nat.{ℕ, zero, suc, ◌+◌, ◌*◌, ◌-◌, ◌%◌, ◌<◌}
use mathlib.Core.Path.{◌≡◌, refl, ap, sym, ◌∙◌}
use mathlib.Core.List.{List, [], ◌∷◌}
use native.Mathlib.Nat.{sub-zero, suc-sub-suc, not-suc-le-zero, zero-mul, one-mul}
use native.Mathlib.Decide.{dec_lt}
use native.Mathlib.Omega.{arith}
use lib.ListN.{get_or, length}
use Rattle.defs.specs.Field.{add, mul, pow, binom}
use Rattle.defs.specs.Place.{Symbols}
use Rattle.defs.specs.Row.{sum, coefficient}
use Rattle.theory.specs.Poly.{h}
use Rattle.theory.proofs.Field.{bit, sums, 0-add, mul_0, mul_comm, mul_left_comm, one_mul_of_lt}
use Rattle.theory.proofs.Sum.{sum_suc, sum_ext, sum_add, sum_zero, sum_scale, sum_from_lem}

pub binom_small : (n k : ℕ) → n < k → binom n k ≡ 0
unfolding binom
binom_small n zero l = absurd (not-suc-le-zero l)
binom_small zero (suc k) l = refl
binom_small (suc n) (suc k) l = rw (binom_small n k (omega arith), binom_small n (suc k) (omega arith))

-- the parity of a sum, times x
parity : (a b x : ℕ) → (a + b) % 2 * x ≡ add (a % 2 * x) (b % 2 * x)
parity a b x =
    let e : (a + b) % 2 ≡ (a % 2 + b % 2) % 2 = omega arith in
    rw e
    (bit (λ p. (p + b % 2) % 2 * x ≡ add (p * x) (b % 2 * x))
    (bit (λ q. (0 + q) % 2 * x ≡ add (0 * x) (q * x)) (simp (zero-mul, sums)) (simp (zero-mul, one-mul, sums)) b)
    (bit (λ q. (1 + q) % 2 * x ≡ add (1 * x) (q * x)) (simp (zero-mul, one-mul, sums)) (simp (zero-mul, one-mul, sums)) b) a)

module _ (m P : ℕ) where
  scaled : (n c x : ℕ) → n % 2 * mul m c x ≡ mul m c (n % 2 * x)
  scaled n c x = bit (λ p. p * mul m c x ≡ mul m c (p * x)) (simp (zero-mul, mul_0)) (simp one-mul) n

  -- the term of formula (2) at i
  abbrev term : List ℕ → ℕ → ℕ → ℕ
  term f j i = binom i j % 2 * mul m (get_or f i 0) (pow m P (i - j))

  pow-suc : (n : ℕ) → pow m P (suc n) ≡ mul m P (pow m P n)
  unfolding pow
  pow-suc n = refl

  term_zero : (f : List ℕ) (c i : ℕ) → term (c ∷ f) 0 (suc i) ≡ mul m P (term f 0 i)
  unfolding binom
  term_zero f c i = simp sub-zero (rw (pow-suc, mul_left_comm, scaled 1 P))

  term_high : (j i x : ℕ) → Dec (j < i)
      → binom i (suc j) % 2 * mul m x (pow m P (i - j)) ≡ mul m P (binom i (suc j) % 2 * mul m x (pow m P (i - suc j)))
  term_high j i x (yes l) =
      let e : i - j ≡ suc (i - suc j) = omega arith in
      rw (e, pow-suc, mul_left_comm, scaled (binom i (suc j)) P)
  term_high j i x (no l) = rw (binom_small i (suc j) (omega arith)) (simp (zero-mul, mul_0))

  term_suc : (f : List ℕ) (c j i : ℕ) → term (c ∷ f) (suc j) (suc i) ≡ add (term f j i) (mul m P (term f (suc j) i))
  unfolding binom
  term_suc f c j i = simp suc-sub-suc (parity _ _ _ ∙ ap (add (term f j i)) (term_high j i _ (dec_lt j i)))

  first_zero : (f : List ℕ) (c : ℕ) → Symbols m (c ∷ f) → term (c ∷ f) 0 0 ≡ c
  unfolding binom pow
  first_zero f c o = one-mul _ ∙ mul_comm m c 1 ∙ one_mul_of_lt m c (o 0)

  first_suc : (f : List ℕ) (c j : ℕ) → term (c ∷ f) (suc j) 0 ≡ 0
  unfolding binom
  first_suc f c j = zero-mul _

  whole : (j : ℕ) (f : List ℕ) → Symbols m f → sum (length f) (term f j) ≡ h m P j f
  unfolding h
  whole j [] o = sum_zero 0 _ (λ i l. absurd (not-suc-le-zero l))
  whole zero (c ∷ f) o =
      rw (
        sum_suc,
        first_zero f c o,
        sum_ext (length f) _ _ (λ i l. term_zero f c i),
        sum_scale m (length f) P (term f 0),
        whole zero f (λ i. o (suc i)),
      )
  whole (suc j) (c ∷ f) o =
      rw (
        sum_suc,
        first_suc f c j,
        0-add,
        sum_ext (length f) _ _ (λ i l. term_suc f c j i),
        sum_add (length f) (term f j) (λ i. mul m P (term f (suc j) i)),
        sum_scale m (length f) P (term f (suc j)),
        whole j f (λ i. o (suc i)),
        whole (suc j) f (λ i. o (suc i)),
      )

  pub coefficient_h : (j : ℕ) (f : List ℕ) → Symbols m f → coefficient m f P j ≡ h m P j f
  unfolding coefficient
  coefficient_h j f o = sym (sum_from_lem j (length f) _ (λ i l. rw (binom_small i j l) (zero-mul _))) ∙ whole j f o
