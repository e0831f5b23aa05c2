-- The fields with 2 ^ m elements, m being 2, 4 or 8: the numbers below 2 ^ m, read as polynomials over the field with two elements.
use Rattle.std.specs.Prelude.{◌≡◌, ◌⊎◌, cond, ℕ, zero, suc, ◌+◌, ◌*◌, ◌/◌, ◌%◌, ◌^◌, eqb}
use Rattle.std.specs.Int.Bits.{bit_xor}

abbrev pub Width : ℕ → Type 0
Width m = (m ≡ 2) ⊎ ((m ≡ 4) ⊎ (m ≡ 8))

unfoldable pub add : ℕ → ℕ → ℕ
add a b = bit_xor a b

-- x^2 + x + 1, x^4 + x + 1, x^8 + x^4 + x^3 + x^2 + 1
unfoldable pub modulus : ℕ → ℕ
modulus m = cond (eqb m 2) 7 (cond (eqb m 4) 19 285)

-- x times a: one bit up, and the modulus added where that sets bit m. Only the m low bits of a count
unfoldable pub times2 : ℕ → ℕ → ℕ
times2 m a = add (a * 2) (a * 2 / 2 ^ m % 2 * modulus m) % 2 ^ m

-- shift and add, over the n low bits of b
unfoldable pub mul_bits : ℕ → ℕ → ℕ → ℕ → ℕ
mul_bits m zero a b = 0
mul_bits m (suc n) a b = add (b % 2 * a) (mul_bits m n (times2 m a) (b / 2))

-- a times b; only their m low bits count
unfoldable pub mul : ℕ → ℕ → ℕ → ℕ
mul m a b = mul_bits m m (a % 2 ^ m) b

-- a to the power e; the zeroth power is 1, that of 0 too
unfoldable pub pow : ℕ → ℕ → ℕ → ℕ
pow m a zero = 1
pow m a (suc e) = mul m a (pow m a e)

-- Pascal's triangle
unfoldable pub binom : ℕ → ℕ → ℕ
binom n zero = 1
binom zero (suc k) = 0
binom (suc n) (suc k) = binom n k + binom n (suc k)
