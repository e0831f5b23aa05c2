-- What the steps that fill the working table leave in it.
use Rattle.std.specs.Prelude.{ℕ, ◌+◌, ◌*◌, ◌-◌, ◌<◌, ◌≤◌, ◌≡◌, List, length, get_or}
use Rattle.defs.specs.Field.{add, mul}
use Rattle.defs.specs.Place.{Symbols}
use Rattle.defs.specs.Distance.{symbol}
use Rattle.solve.specs.Table.{stride, at, Shape}
use Rattle.pair.specs.Equation.{power_at, Equation}

-- a product looked up in the row of the multiples of one factor
abbrev pub look : List ℕ → ℕ → ℕ
look row x = get_or row x 0

-- t is t₀ but for the first n entries in each of its first d rows: in row j they are the coefficients j of 1, x, x ^ 2, .. at P
pub record Powers (m P d n : ℕ) (t₀ t : List ℕ) : Type 0 where
  pub size : length t ≡ length t₀
  pub symbols : Symbols m t
  pub inside : (j a : ℕ) → j < d → a < n → at t j a ≡ power_at (mul m P) j a
  pub outside : (k : ℕ) → ((j a : ℕ) → j < d → a < n → k ≡ j * stride + a → ⊥) → get_or t k 0 ≡ get_or t₀ k 0

-- t is t₀ but that in the rows from b on and before d x times the first s₁ entries of row j - b has been added to those of row j from s₀ on
pub record Added (m x b d s₀ s₁ : ℕ) (t₀ t : List ℕ) : Type 0 where
  pub size : length t ≡ length t₀
  pub symbols : Symbols m t
  pub inside : (j a : ℕ) → b ≤ j → j < d → a < s₁ → at t j (s₀ + a) ≡ add (at t₀ j (s₀ + a)) (mul m x (at t₀ (j - b) a))
  pub outside : (k : ℕ) → ((j a : ℕ) → b ≤ j → j < d → a < s₁ → k ≡ j * stride + (s₀ + a) → ⊥) → get_or t k 0 ≡ get_or t₀ k 0

-- the rows t have the equations of a chunk w at P, in which only the symbols before b count
pub record Chunk (m r s₀ s₁ P : ℕ) (w : ℕ → ℕ) (b : ℕ) (t : List ℕ) : Type 0 where
  pub size : length t ≡ r * stride
  pub symbols : Symbols m t
  pub rows : (j : ℕ) → j < r → Equation m s₀ s₁ P w b j (at t j)

-- t has the equations of the first n chunks
pub record System (m r s₀ s₁ n : ℕ) (points w t : List ℕ) : Type 0 where
  pub shape : Shape m t
  pub rows : (i : ℕ) → i < n → (j : ℕ) → j < r → Equation m s₀ s₁ (get_or points i 0) (symbol r w i) r j (at t (i * r + j))
