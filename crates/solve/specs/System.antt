-- Systems of homogeneous linear equations. A matrix is a function of the row and the column, a vector one of the column.
use Rattle.std.specs.Prelude.{ℕ, ◌<◌, ◌≡◌, cond, eqb, ltb}
use Rattle.defs.specs.Field.{mul}
use Rattle.defs.specs.Row.{sum}

abbrev pub Matrix : Type 0
Matrix = ℕ → ℕ → ℕ

-- row i of M times x
abbrev pub dot : ℕ → Matrix → ℕ → ℕ → (ℕ → ℕ) → ℕ
dot m M cols i x = sum cols (λ j. mul m (M i j) (x j))

abbrev pub Solves : ℕ → Matrix → ℕ → ℕ → (ℕ → ℕ) → Type 0
Solves m M rows cols x = (i : ℕ) → i < rows → dot m M cols i x ≡ 0

-- unknown c is 1, those before it are column c of M, those after it are 0
unfoldable pub free : Matrix → ℕ → ℕ → ℕ
free M c j = cond (ltb j c) (M j c) (cond (eqb j c) 1 0)
