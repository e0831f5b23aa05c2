-- Binomials modulo 2: C(a, b) is odd exactly when every one bit of b is also a one bit of a. By halving, with the four cases that Pascal's rule gives.
use Prim.Native.Nat.{ℕ, zero, suc, ◌+◌, ◌*◌, ◌/◌, ◌%◌, ◌^◌, ◌<◌, ◌≤◌, max}
use mathlib.Core.Path.{◌≡◌, refl, ap, ap₂, sym, ◌∙◌}
use native.Mathlib.Nat.{mul-one, mul-zero, zero-div, div-div-eq-div-mul, pow-succ', mod-lt, div-add-mod'}
use native.Nat.{ℕᴺ_discrete}
use native.Mathlib.Decide.{dec_lt}
use native.Mathlib.Omega.{arith}
use lib.Arith.{bin_ind}
use lib.Bits.{bit_or, or_step, or_zero_r, or_shr, or_mod, or_add_and, and_le_r}
use Rattle.defs.specs.Field.{binom}
use Rattle.theory.specs.Bits.{BitsWithin}
use Rattle.theory.proofs.Field.{two_pos, bit}
use Rattle.theory.proofs.Formula.{binom_small}

-- ---- halving

twice : ℕ → ℕ
twice zero = 0
twice (suc n) = suc (suc (twice n))

twice_is : (n : ℕ) → twice n ≡ n * 2
unfolding twice
twice_is zero = refl
twice_is (suc n) = let e = twice_is n in omega arith

-- the row 2a of the triangle
record EvenRow (a b : ℕ) : Type 0 where
  pub even : binom (twice a) (twice b) % 2 ≡ binom a b % 2
  pub odd : binom (twice a) (suc (twice b)) % 2 ≡ 0

-- the row 2a + 1, from the one above it
module _ (a : ℕ) (row : (b : ℕ) → EvenRow a b) where
  odd_even : (b : ℕ) → binom (suc (twice a)) (twice b) % 2 ≡ binom a b % 2
  unfolding binom twice
  odd_even zero = refl
  odd_even (suc b) = omega (arith, (row b).odd, (row (suc b)).even)

  odd_odd : (b : ℕ) → binom (suc (twice a)) (suc (twice b)) % 2 ≡ binom a b % 2
  unfolding binom twice
  odd_odd b = omega (arith, (row b).even, (row b).odd)

even_row : (a b : ℕ) → EvenRow a b
unfolding binom twice
even_row zero zero = record { even = refl; odd = refl }
even_row zero (suc b) = record { even = refl; odd = refl }
even_row (suc a) zero = record { even = refl; odd = omega (arith, odd_even a (even_row a) 0, odd_odd a (even_row a) 0) }
even_row (suc a) (suc b) = record {
  even = omega (arith, odd_odd a (even_row a) b, odd_even a (even_row a) (suc b));
  odd = omega (arith, odd_even a (even_row a) (suc b), odd_odd a (even_row a) (suc b));
}

low_0 : (n : ℕ) → n * 2 + 0 ≡ twice n
low_0 n = omega (arith, twice_is n)

low_1 : (n : ℕ) → n * 2 + 1 ≡ suc (twice n)
low_1 n = omega (arith, twice_is n)

-- C(2a + x, 2b + y) and C(a, b) C(x, y) are equal modulo 2
pub halving : (a b x y : ℕ) → x < 2 → y < 2 → binom (a * 2 + x) (b * 2 + y) % 2 ≡ binom a b * binom x y % 2
unfolding binom
halving a b zero zero h l = rw (low_0 a, low_0 b, mul-one) (even_row a b).even
halving a b zero (suc zero) h l = rw (low_0 a, low_1 b, mul-zero) (even_row a b).odd
halving a b (suc zero) zero h l = rw (low_1 a, low_0 b, mul-one) (odd_even a (even_row a) b)
halving a b (suc zero) (suc zero) h l = rw (low_1 a, low_1 b, mul-one) (odd_odd a (even_row a) b)
halving a b (suc (suc x)) y h l = absurd (omega arith)
halving a b zero (suc (suc y)) h l = absurd (omega arith)
halving a b (suc zero) (suc (suc y)) h l = absurd (omega arith)

halves : (a b : ℕ) → binom a b % 2 ≡ binom (a / 2) (b / 2) * binom (a % 2) (b % 2) % 2
halves a b =
    ap₂ (λ (x y : ℕ). binom x y % 2) (sym (div-add-mod' a 2)) (sym (div-add-mod' b 2))
    ∙ halving (a / 2) (b / 2) (a % 2) (b % 2) (mod-lt a two_pos) (mod-lt b two_pos)

bit_one : (x y : ℕ) → x < 2 → y ≤ x → binom x y ≡ 1
unfolding binom
bit_one x zero h l = refl
bit_one zero (suc y) h l = absurd (omega arith)
bit_one (suc zero) (suc zero) h l = refl
bit_one (suc zero) (suc (suc y)) h l = absurd (omega arith)
bit_one (suc (suc x)) (suc y) h l = absurd (omega arith)

module _ (a b : ℕ) where
  halves_in : b % 2 ≤ a % 2 → binom a b % 2 ≡ binom (a / 2) (b / 2) % 2
  halves_in l = halves a b ∙ rw (bit_one (a % 2) (b % 2) (mod-lt a two_pos) l, mul-one)

  halves_out : a % 2 < b % 2 → binom a b % 2 ≡ 0
  halves_out l = halves a b ∙ rw (binom_small (a % 2) (b % 2) l, mul-zero)

-- ---- one bits

bit_order : (x y : ℕ) → x < 2 → (x ≡ 1 → y ≡ 1) → x ≤ y
bit_order zero y h e = omega arith
bit_order (suc zero) y h e = omega (arith, e refl)
bit_order (suc (suc x)) y h e = absurd (omega arith)

-- the bits of the half
bit_up : (n i : ℕ) → n / 2 / 2 ^ i % 2 ≡ n / 2 ^ suc i % 2
bit_up n i = ap (λ (x : ℕ). x % 2) (div-div-eq-div-mul n 2 (2 ^ i) ∙ ap (λ (x : ℕ). n / x) (sym (pow-succ' 2 i)))

bit_down : (n : ℕ) → n / 2 ^ 0 % 2 ≡ n % 2
bit_down n = omega arith

module _ (b a : ℕ) where
  lowest : BitsWithin b a → b % 2 ≤ a % 2
  unfolding BitsWithin
  lowest w = bit_order (b % 2) (a % 2) (mod-lt b two_pos) (λ e. sym (bit_down a) ∙ w 0 (bit_down b ∙ e))

  within_half : BitsWithin b a → BitsWithin (b / 2) (a / 2)
  unfolding BitsWithin
  within_half w i e = bit_up a i ∙ w (suc i) (sym (bit_up b i) ∙ e)

  within_join : b % 2 ≤ a % 2 → BitsWithin (b / 2) (a / 2) → BitsWithin b a
  unfolding BitsWithin
  within_join h w zero e = omega (arith, bit_down a, bit_down b)
  within_join h w (suc i) e = sym (bit_up a i) ∙ w i (bit_up b i ∙ e)

none_within : (a : ℕ) → BitsWithin 0 a
unfolding BitsWithin
none_within a i e = absurd (omega (arith, ap (λ (x : ℕ). x % 2) (zero-div (2 ^ i))))

-- ---- the formula

pub odd_within : (a b : ℕ) → binom a b % 2 ≡ 1 → BitsWithin b a
odd_within a b = bin_ind (λ (n : ℕ). (a : ℕ) → binom a n % 2 ≡ 1 → BitsWithin n a) (λ a e. none_within a) (λ n ih a e. go n ih a e (dec_lt (a % 2) (n % 2))) b a
  where
    go : (n : ℕ) → ((a : ℕ) → binom a (n / 2) % 2 ≡ 1 → BitsWithin (n / 2) a) → (a : ℕ) → binom a n % 2 ≡ 1 → Dec (a % 2 < n % 2) → BitsWithin n a
    go n ih a e (yes l) = absurd (omega (arith, halves_out a n l))
    go n ih a e (no l) = let h : n % 2 ≤ a % 2 = omega arith in within_join n a h (ih (a / 2) (sym (halves_in a n h) ∙ e))

pub within_odd : (a b : ℕ) → BitsWithin b a → binom a b % 2 ≡ 1
unfolding binom
within_odd a b =
    bin_ind (λ (n : ℕ). (a : ℕ) → BitsWithin n a → binom a n % 2 ≡ 1) (λ a w. refl)
    (λ n ih a w. halves_in a n (lowest n a w) ∙ ih (a / 2) (within_half n a w)) b a

pub self_odd : (j : ℕ) → binom j j % 2 ≡ 1
unfolding BitsWithin
self_odd j = within_odd j j (λ i e. e)

-- ---- the next upper number

-- a number that has the bits of j already
or_within : (j i : ℕ) → BitsWithin j i → bit_or i j ≡ i
or_within =
    bin_ind (λ (n : ℕ). (i : ℕ) → BitsWithin n i → bit_or i n ≡ i) (λ i w. or_zero_r i)
    (λ n ih i w. or_step i n ∙ omega (arith, ih (i / 2) (within_half n i w), lowest n i w))

within_or : (j i : ℕ) → BitsWithin j (bit_or i j)
unfolding BitsWithin
within_or j i n e =
    ap (λ (x : ℕ). x % 2) (or_shr i j n) ∙ or_mod (i / 2 ^ n) (j / 2 ^ n) 1
    ∙ ap (bit_or (i / 2 ^ n % 2)) e ∙ bit (λ x. bit_or x 1 ≡ 1) refl refl (i / 2 ^ n)

-- where i has the bits of j, so has i + 1 with those of j, and no number between
next_least : (j i c : ℕ) → BitsWithin j i → BitsWithin j c → i < c → bit_or (i + 1) j ≤ c
next_least =
    bin_ind (λ (n : ℕ). (i c : ℕ) → BitsWithin n i → BitsWithin n c → i < c → bit_or (i + 1) n ≤ c) (λ i c w v l. rw (or_zero_r (i + 1)) (omega arith))
    (λ n ih i c w v l. rw (or_step (i + 1) n) (go n ih i c w v l (dec_lt 0 (i % 2))))
  where
    go : (n : ℕ) → ((i c : ℕ) → BitsWithin (n / 2) i → BitsWithin (n / 2) c → i < c → bit_or (i + 1) (n / 2) ≤ c) → (i c : ℕ) → BitsWithin n i → BitsWithin n c → i < c
        → Dec (0 < i % 2) → bit_or ((i + 1) / 2) (n / 2) * 2 + max ((i + 1) % 2) (n % 2) ≤ c
    go n ih i c w v l (yes o) =
        let h : (i + 1) / 2 ≡ i / 2 + 1 = omega arith in
        rw h (omega (arith, lowest n c v, ih (i / 2) (c / 2) (within_half n i w) (within_half n c v) (omega arith)))
    go n ih i c w v l (no o) =
        let h : (i + 1) / 2 ≡ i / 2 = omega arith in
        rw h (omega (arith, lowest n i w, or_within (n / 2) (i / 2) (within_half n i w)))

module _ (i j : ℕ) where
  pub next_above : i < bit_or (i + 1) j
  next_above = omega (arith, or_add_and (i + 1) j, and_le_r (i + 1) j)

  pub next_odd : binom (bit_or (i + 1) j) j % 2 ≡ 1
  next_odd = within_odd _ j (within_or j (i + 1))

  pub next_even : binom i j % 2 ≡ 1 → (c : ℕ) → i < c → c < bit_or (i + 1) j → binom c j % 2 ≡ 0
  next_even o c l h = go (ℕᴺ_discrete (binom c j % 2) 1)
    where
      go : Dec (binom c j % 2 ≡ 1) → binom c j % 2 ≡ 0
      go (yes e) = absurd (omega (arith, next_least j i c (odd_within i j o) (odd_within c j e) l))
      go (no e) = omega arith
