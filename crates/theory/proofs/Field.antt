-- The laws of add and mul, at every m.
use mathlib.Core.Path.{◌≡◌, refl, sym, ap, ap₂, ◌∙◌}
use Prim.Native.Nat.{ℕ, zero, suc, ◌+◌, ◌*◌, ◌/◌, ◌%◌, ◌^◌, ◌≤◌, ◌<◌}
use native.Mathlib.Nat.{not-suc-le-zero, le_of_suc-le-suc, mod-lt, mod-mod, mod-eq_of_lt, zero-mul, one-mul, zero-lt-suc, mul-one, mul-mod_left, mul-div_cancel, mul_right_comm, suc-add, mod-one, add-zero, zero-add, pow-suc, div-eq_of_lt}
use native.Mathlib.Omega.{arith}
use native.Mathlib.Numerals.{add-one}
use lib.Arith.{bin_ind}
use lib.Pow as N
use lib.Pow.{pow_pos, split, mod-pow-add}
use lib.Bits.{bit_xor, differ, xor_step, xor_comm, xor_zero_l, xor_zero_r, xor_self, xor_shr, xor_mod, xor_lt, xor_shifted, xor_block}
use Rattle.defs.specs.Field.{add, modulus, times2, mul_bits, mul, pow}

pub two_pos : zero < 2
two_pos = zero-lt-suc 1

-- what holds of 0 and of 1 holds of a bit
pub bit : (P : ℕ → Type 0) → P 0 → P 1 → (n : ℕ) → P (n % 2)
bit P p q n = go (n % 2) (mod-lt n two_pos)
  where
    go : (x : ℕ) → x < 2 → P x
    go zero h = p
    go (suc zero) h = q
    go (suc (suc x)) h = absurd (not-suc-le-zero (le_of_suc-le-suc (le_of_suc-le-suc h)))

-- ---- add

bits_assoc : (a b c : ℕ) → differ (bit_xor (a % 2) (b % 2)) (c % 2) ≡ differ (a % 2) (bit_xor (b % 2) (c % 2))
bits_assoc a b c =
    bit (λ x. differ (bit_xor x (b % 2)) (c % 2) ≡ differ x (bit_xor (b % 2) (c % 2)))
    (bit (λ y. differ (bit_xor 0 y) (c % 2) ≡ differ 0 (bit_xor y (c % 2))) refl (bit (λ z. differ 1 z ≡ bit_xor 1 z) refl refl c) b)
    (bit (λ y. differ (bit_xor 1 y) (c % 2) ≡ differ 1 (bit_xor y (c % 2)))
    (bit (λ z. differ 1 z ≡ differ 1 z) refl refl c)
    (bit (λ z. differ 0 z ≡ differ 1 (bit_xor 1 z)) refl refl c) b)
    a

xor_half : (a b : ℕ) → bit_xor a b / 2 ≡ bit_xor (a / 2) (b / 2)
xor_half a b = xor_shr a b 1

xor_odd : (a b : ℕ) → bit_xor a b % 2 ≡ bit_xor (a % 2) (b % 2)
xor_odd a b = xor_mod a b 1

xor_assoc : (a b c : ℕ) → bit_xor (bit_xor a b) c ≡ bit_xor a (bit_xor b c)
xor_assoc =
    bin_ind (λ (n : ℕ). (b c : ℕ) → bit_xor (bit_xor n b) c ≡ bit_xor n (bit_xor b c)) (λ b c. refl)
    (λ n ih b c. xor_step (bit_xor n b) c
    ∙ ap₂ (λ (x y : ℕ). bit_xor x (c / 2) * 2 + differ y (c % 2)) (xor_half n b) (xor_odd n b)
    ∙ ap₂ (λ (x y : ℕ). x * 2 + y) (ih (b / 2) (c / 2)) (bits_assoc n b c)
    ∙ sym (ap₂ (λ (x y : ℕ). bit_xor (n / 2) x * 2 + differ (n % 2) y) (xor_half b c) (xor_odd b c))
    ∙ sym (xor_step n (bit_xor b c)))

pub add_comm : (a b : ℕ) → add a b ≡ add b a
unfolding add
add_comm a b = xor_comm a b

pub add_assoc : (a b c : ℕ) → add (add a b) c ≡ add a (add b c)
unfolding add
add_assoc a b c = xor_assoc a b c

pub add_0 : (a : ℕ) → add a 0 ≡ a
unfolding add
add_0 a = xor_zero_r a

pub 0-add : (a : ℕ) → add 0 a ≡ a
unfolding add
0-add a = xor_zero_l a

pub add_self : (a : ℕ) → add a a ≡ 0
unfolding add
add_self a = xor_self a

pub add_lt : (m a b : ℕ) → a < 2 ^ m → b < 2 ^ m → add a b < 2 ^ m
unfolding add
add_lt m a b = xor_lt m a b

pub add_mod : (m a b : ℕ) → add a b % 2 ^ m ≡ add (a % 2 ^ m) (b % 2 ^ m)
unfolding add
add_mod m a b = xor_mod a b m

pub add_div : (m a b : ℕ) → add a b / 2 ^ m ≡ add (a / 2 ^ m) (b / 2 ^ m)
unfolding add
add_div m a b = xor_shr a b m

pub add_left_comm : (a b c : ℕ) → add a (add b c) ≡ add b (add a c)
add_left_comm a b c = sym (add_assoc a b c) ∙ ap (λ (x : ℕ). add x c) (add_comm a b) ∙ add_assoc b a c

pub add_again : (a b : ℕ) → add a (add a b) ≡ b
add_again a b = sym (add_assoc a a b) ∙ ap (λ (x : ℕ). add x b) (add_self a) ∙ 0-add b

swap : (a b c d : ℕ) → add (add a b) (add c d) ≡ add (add a c) (add b d)
swap a b c d = simp (add_assoc, add_left_comm)

double : (a b : ℕ) → add a b * 2 ≡ add (a * 2) (b * 2)
unfolding add
double a b =
    sym (add-zero (bit_xor a b * 2)) ∙ sym (xor_block 1 a b 0 0 (zero-lt-suc 1) (zero-lt-suc 1))
    ∙ ap₂ bit_xor (add-zero (a * 2)) (add-zero (b * 2))

-- a number times a bit
scale_two : (a b c : ℕ) → add (b % 2) (c % 2) * a ≡ add (b % 2 * a) (c % 2 * a)
unfolding add
scale_two a b c =
    bit (λ x. bit_xor x (c % 2) * a ≡ bit_xor (x * a) (c % 2 * a))
    (simp (zero-mul))
    (bit (λ x. bit_xor 1 x * a ≡ bit_xor (1 * a) (x * a)) (simp (zero-mul, one-mul, xor_zero_r)) (simp (zero-mul, one-mul, xor_self)) c) b

scale_bits : (a b c : ℕ) → add b c % 2 * a ≡ add (b % 2 * a) (c % 2 * a)
scale_bits a b c = ap (λ (x : ℕ). x * a) (add_mod 1 b c) ∙ scale_two a b c

low_bits : (k b : ℕ) → b % 2 ^ suc k ≡ b / 2 % 2 ^ k * 2 + b % 2
low_bits k b = ap (λ (x : ℕ). b % 2 ^ x) (sym (add-one k)) ∙ mod-pow-add b k 1

-- a bit put under q, both i places up
join : (q b i : ℕ) → add (b % 2 * 2 ^ i) (q * 2 ^ suc i) ≡ (q * 2 + b % 2) * 2 ^ i
unfolding add
join q b i =
    xor_comm (b % 2 * 2 ^ i) (q * 2 ^ suc i)
    ∙ xor_shifted q (suc i) (b % 2 * 2 ^ i)
    (rw (pow-suc 2 i) (bit (λ x. x * 2 ^ i < 2 ^ i * 2) (omega (arith, pow_pos i)) (omega (arith, pow_pos i)) b))
    ∙ rw (pow-suc 2 i) (omega arith)

-- ---- times2

module _ (m : ℕ) where
  pub times2_lt : (a : ℕ) → times2 m a < 2 ^ m
  unfolding times2
  times2_lt a = mod-lt _ (pow_pos m)

  pub times2_add : (a b : ℕ) → times2 m (add a b) ≡ add (times2 m a) (times2 m b)
  unfolding times2
  times2_add a b =
      ap (λ (x : ℕ). add x (x / 2 ^ m % 2 * modulus m) % 2 ^ m) (double a b)
      ∙ ap (λ (x : ℕ). add (add (a * 2) (b * 2)) x % 2 ^ m)
      (ap (λ (x : ℕ). x % 2 * modulus m) (add_div m (a * 2) (b * 2)) ∙ scale_bits (modulus m) (a * 2 / 2 ^ m) (b * 2 / 2 ^ m))
      ∙ ap (λ (x : ℕ). x % 2 ^ m) (swap (a * 2) (b * 2) _ _)
      ∙ add_mod m _ _

  times2_high : (q : ℕ) → times2 m (q * 2 ^ m) ≡ 0
  unfolding times2
  times2_high q =
      simp (mul_right_comm q (2 ^ m) 2, mul-div_cancel, pow_pos, mul-mod_left, zero-mul, add_0)

  parts : (a : ℕ) → add (a / 2 ^ m * 2 ^ m) (a % 2 ^ m) ≡ a
  unfolding add
  parts a = xor_shifted (a / 2 ^ m) m (a % 2 ^ m) (mod-lt a (pow_pos m)) ∙ split a m

  pub times2_mod : (a : ℕ) → times2 m (a % 2 ^ m) ≡ times2 m a
  times2_mod a =
      sym (0-add (times2 m (a % 2 ^ m))) ∙ ap (λ (x : ℕ). add x (times2 m (a % 2 ^ m))) (sym (times2_high (a / 2 ^ m)))
      ∙ sym (times2_add (a / 2 ^ m * 2 ^ m) (a % 2 ^ m)) ∙ ap (times2 m) (parts a)

  -- ---- the sum over the bits

  -- a map that respects add and times2 respects the sum: all laws of mul follow from this
  module _ (L : ℕ → ℕ) (La : (x y : ℕ) → L (add x y) ≡ add (L x) (L y)) where
    at_0 : L 0 ≡ 0
    at_0 = ap L (sym (add_self 0)) ∙ La 0 0 ∙ add_self (L 0)

    at_bit : (b a : ℕ) → L (b % 2 * a) ≡ b % 2 * L a
    at_bit b a = bit (λ x. L (x * a) ≡ x * L a) (simp (zero-mul, at_0)) (simp (one-mul)) b

    pub respects : ((x : ℕ) → L (times2 m x) ≡ times2 m (L x)) → (n a b : ℕ) → L (mul_bits m n a b) ≡ mul_bits m n (L a) b
    unfolding mul_bits
    respects Lt zero a b = at_0
    respects Lt (suc n) a b =
        La (b % 2 * a) (mul_bits m n (times2 m a) (b / 2))
        ∙ ap₂ add (at_bit b a) (respects Lt n (times2 m a) (b / 2) ∙ ap (λ (x : ℕ). mul_bits m n x (b / 2)) (Lt a))

  bits_add_r : (n a b c : ℕ) → mul_bits m n a (add b c) ≡ add (mul_bits m n a b) (mul_bits m n a c)
  unfolding mul_bits
  bits_add_r zero a b c = sym (add_0 0)
  bits_add_r (suc n) a b c =
      ap₂ add (scale_bits a b c) (ap (mul_bits m n (times2 m a)) (add_div 1 b c) ∙ bits_add_r n (times2 m a) (b / 2) (c / 2))
      ∙ swap _ _ _ _

  bits_add_l : (n a b c : ℕ) → mul_bits m n (add a b) c ≡ add (mul_bits m n a c) (mul_bits m n b c)
  unfolding mul_bits
  bits_add_l zero a b c = sym (add_0 0)
  bits_add_l (suc n) a b c =
      ap₂ add (sym (at_bit_l c a b)) (ap (λ (x : ℕ). mul_bits m n x (c / 2)) (times2_add a b) ∙ bits_add_l n (times2 m a) (times2 m b) (c / 2))
      ∙ swap _ _ _ _
    where
      at_bit_l : (c a b : ℕ) → add (c % 2 * a) (c % 2 * b) ≡ c % 2 * add a b
      at_bit_l c a b = bit (λ x. add (x * a) (x * b) ≡ x * add a b) (simp (zero-mul, add_0)) (simp (one-mul)) c

  bits_lt : (n a b : ℕ) → a < 2 ^ m → mul_bits m n a b < 2 ^ m
  unfolding mul_bits
  bits_lt zero a b h = pow_pos m
  bits_lt (suc n) a b h =
      add_lt m _ _ (bit (λ x. x * a < 2 ^ m) (rw zero-mul (pow_pos m)) (rw one-mul h) b) (bits_lt n (times2 m a) (b / 2) (times2_lt a))

  -- ---- mul

  pub mul_lt : (a b : ℕ) → mul m a b < 2 ^ m
  unfolding mul
  mul_lt a b = bits_lt m (a % 2 ^ m) b (mod-lt a (pow_pos m))

  pub mul_add_r : (a b c : ℕ) → mul m a (add b c) ≡ add (mul m a b) (mul m a c)
  unfolding mul
  mul_add_r a b c = bits_add_r m (a % 2 ^ m) b c

  pub mul_add_l : (a b c : ℕ) → mul m (add a b) c ≡ add (mul m a c) (mul m b c)
  unfolding mul
  mul_add_l a b c = ap (λ (x : ℕ). mul_bits m m x c) (add_mod m a b) ∙ bits_add_l m (a % 2 ^ m) (b % 2 ^ m) c

  pub mul_mod_l : (a b : ℕ) → mul m (a % 2 ^ m) b ≡ mul m a b
  unfolding mul
  mul_mod_l a b = ap (λ (x : ℕ). mul_bits m m x b) (mod-mod a (2 ^ m))

  pub mul_times2_l : (a b : ℕ) → mul m (times2 m a) b ≡ times2 m (mul m a b)
  unfolding mul
  mul_times2_l a b =
      ap (λ (x : ℕ). mul_bits m m x b) (mod-eq_of_lt (times2_lt a) ∙ sym (times2_mod a))
      ∙ sym (respects (times2 m) times2_add (λ x. refl) m (a % 2 ^ m) b)

  -- 2 ^ i is x ^ i
  pub times2_pow : (i : ℕ) → suc i < m → times2 m (2 ^ i) ≡ 2 ^ suc i
  unfolding times2
  times2_pow i h =
      ap (λ (x : ℕ). add x (x / 2 ^ m % 2 * modulus m) % 2 ^ m) (sym (pow-suc 2 i))
      ∙ simp (div-eq_of_lt (N.pow-lt h), zero-mul, add_0, mod-eq_of_lt (N.pow-lt h))

  bits_pow : (n i b : ℕ) → n + i ≤ m → mul_bits m n (2 ^ i) b ≡ b % 2 ^ n * 2 ^ i
  unfolding mul_bits
  bits_pow zero i b h = sym (ap (λ (x : ℕ). x * 2 ^ i) (mod-one b) ∙ zero-mul (2 ^ i))
  bits_pow (suc zero) i b h = add_0 (b % 2 * 2 ^ i)
  bits_pow (suc (suc n)) i b h =
      ap (λ (x : ℕ). add (b % 2 * 2 ^ i) (mul_bits m (suc n) x (b / 2))) (times2_pow i (omega arith))
      ∙ ap (add (b % 2 * 2 ^ i)) (bits_pow (suc n) (suc i) (b / 2) (omega arith))
      ∙ join (b / 2 % 2 ^ suc n) b i ∙ ap (λ (x : ℕ). x * 2 ^ i) (sym (low_bits (suc n) b))

  pub one_mul_mod : (b : ℕ) → mul m 1 b ≡ b % 2 ^ m
  unfolding mul mul_bits
  one_mul_mod b = go m refl
    where
      go : (k : ℕ) → m ≡ k → mul_bits m m (1 % 2 ^ m) b ≡ b % 2 ^ m
      go zero e = rw e (sym (mod-one b))
      go (suc k) e =
          ap (λ (x : ℕ). mul_bits m m x b) (mod-eq_of_lt (N.pow-lt {i = 0} (omega arith)))
          ∙ bits_pow m 0 b (omega arith) ∙ mul-one (b % 2 ^ m)

  pub one_mul_of_lt : (b : ℕ) → b < 2 ^ m → mul m 1 b ≡ b
  one_mul_of_lt b h = one_mul_mod b ∙ mod-eq_of_lt h

  pub mul_comm : (a b : ℕ) → mul m a b ≡ mul m b a
  unfolding mul
  mul_comm a b =
      ap (λ (x : ℕ). mul_bits m m x b) (sym (one_mul_mod a) ∙ sym (mul_mod_l 1 a))
      ∙ sym (respects (λ x. mul m x a) (λ x y. mul_add_l x y a) (λ x. mul_times2_l x a) m (1 % 2 ^ m) b)
      ∙ ap (λ (x : ℕ). mul m x a) (one_mul_mod b) ∙ mul_mod_l b a

  -- (a b) c = (a c) b
  right_comm : (a b c : ℕ) → mul m (mul m a b) c ≡ mul m (mul m a c) b
  unfolding mul
  right_comm a b c =
      respects (λ x. mul m x c) (λ x y. mul_add_l x y c) (λ x. mul_times2_l x c) m (a % 2 ^ m) b
      ∙ ap (λ (x : ℕ). mul_bits m m x b) (mul_mod_l a c ∙ sym (mod-eq_of_lt (mul_lt a c)))

  pub mul_assoc : (a b c : ℕ) → mul m (mul m a b) c ≡ mul m a (mul m b c)
  mul_assoc a b c = ap (λ (x : ℕ). mul m x c) (mul_comm a b) ∙ right_comm b a c ∙ mul_comm (mul m b c) a

  pub mul_left_comm : (a b c : ℕ) → mul m a (mul m b c) ≡ mul m b (mul m a c)
  mul_left_comm a b c = sym (mul_assoc a b c) ∙ ap (λ (x : ℕ). mul m x c) (mul_comm a b) ∙ mul_assoc b a c

  pub 0-mul : (a : ℕ) → mul m 0 a ≡ 0
  0-mul a = at_0 (λ x. mul m x a) (λ x y. mul_add_l x y a)

  pub mul_0 : (a : ℕ) → mul m a 0 ≡ 0
  mul_0 a = mul_comm a 0 ∙ 0-mul a

  pub one_lt : 1 < m → 1 < 2 ^ m
  one_lt h = N.pow-lt {i = 0} (omega arith)

  pub two_mul : (a : ℕ) → 1 < m → mul m 2 a ≡ times2 m a
  two_mul a h =
      ap (λ (x : ℕ). mul m x a) (sym (times2_pow 0 h)) ∙ mul_times2_l 1 a ∙ ap (times2 m) (one_mul_mod a) ∙ times2_mod a

  -- ---- pow

  pub pow-lt : (a e : ℕ) → 1 < 2 ^ m → pow m a e < 2 ^ m
  unfolding pow
  pow-lt a zero h = h
  pow-lt a (suc e) h = mul_lt a (pow m a e)

  pub pow-add : (a e f : ℕ) → 1 < 2 ^ m → pow m a (e + f) ≡ mul m (pow m a e) (pow m a f)
  unfolding pow
  pow-add a zero f h = ap (pow m a) (zero-add f) ∙ sym (one_mul_of_lt (pow m a f) (pow-lt a f h))
  pow-add a (suc e) f h =
      ap (pow m a) (suc-add e f) ∙ ap (mul m a) (pow-add a e f h) ∙ sym (mul_assoc a (pow m a e) (pow m a f))

  pub pow_mul : (a b e : ℕ) → 1 < 2 ^ m → pow m (mul m a b) e ≡ mul m (pow m a e) (pow m b e)
  unfolding pow
  pow_mul a b zero h = sym (one_mul_of_lt 1 h)
  pow_mul a b (suc e) h = ap (mul m (mul m a b)) (pow_mul a b e h) ∙ simp (mul_assoc, mul_left_comm)

-- `simp sums` brings a sum to a normal form, and `simp ring` a polynomial
pub ruleset sums = (add_assoc, add_left_comm, add_comm, add_again, add_self, add_0, 0-add)

pub ruleset ring = (sums, mul_add_l, mul_add_r, mul_assoc, mul_left_comm, mul_comm, mul_0, 0-mul)
