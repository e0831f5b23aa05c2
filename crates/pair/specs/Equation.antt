-- The equations of formula (9), an unknown to a column: the coefficients of Q₀, then those of Q₁.
use Rattle.std.specs.Prelude.{ℕ, zero, suc, ◌+◌, ◌-◌, ◌<◌, min, ◌≡◌}
use Rattle.defs.specs.Field.{add, mul}
use Rattle.defs.specs.Row.{sum}

-- the coefficients at one depth of 1, x, x ^ 2, .. from that of 1 and from those at the depth above; f multiplies by the point
unfoldable pub deeper : (ℕ → ℕ) → ℕ → (ℕ → ℕ) → ℕ → ℕ
deeper f first above zero = first
deeper f first above (suc a) = add (above a) (f (deeper f first above a))

-- the coefficient j of x ^ a at a point P, by x = P + (x - P)
unfoldable pub power_at : (ℕ → ℕ) → ℕ → ℕ → ℕ
power_at f zero zero = 1
power_at f zero (suc a) = f (power_at f zero a)
power_at f (suc j) a = deeper f 0 (power_at f j) a

-- the coefficient j of w · x ^ a at P, where w is a chunk as a polynomial in x - P and only its symbols before b count
unfoldable pub mixed_at : ℕ → ℕ → (ℕ → ℕ) → ℕ → ℕ → ℕ → ℕ
mixed_at m P w b j a = sum (min b (suc j)) (λ c. mul m (w c) (power_at (mul m P) (j - c) a))

-- a row of the table has the equation of depth j at P, in which only the symbols before b of the chunk w count
pub record Equation (m s₀ s₁ P : ℕ) (w : ℕ → ℕ) (b j : ℕ) (row : ℕ → ℕ) : Type 0 where
  pub first : (a : ℕ) → a < s₀ → row a ≡ power_at (mul m P) j a
  pub second : (a : ℕ) → a < s₁ → row (s₀ + a) ≡ mixed_at m P w b j a
