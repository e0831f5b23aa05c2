-- The multiples of a row by which any multiple of it is a sum of two: x times and 16 x times the row, for x below 16.
use Rattle.std.specs.Prelude.{ℕ, ◌+◌, ◌/◌, ◌%◌, ◌^◌, ◌<◌, ◌≤◌, ◌≡◌}
use Rattle.defs.specs.Field.{add, times2, mul}
use Rattle.solve.specs.Table.{stride}
use Rattle.solve.specs.System.{Matrix}

-- in the columns from start to cols - 1, row 1 of N is row c of M; rows 0 and 16 are 0
pub record Copied (start cols c : ℕ) (M N : Matrix) : Type 0 where
  pub row : (j : ℕ) → start ≤ j → j < cols → N 1 j ≡ M c j
  pub others : (i j : ℕ) → (i ≡ 1 → ⊥) → j < stride → N i j ≡ 0

-- N is M with twice its row half and its row one for its row x
pub record Set (m start cols x half one : ℕ) (M N : Matrix) : Type 0 where
  pub row : (j : ℕ) → start ≤ j → j < cols → N x j ≡ add (times2 m (M half j)) (M one j)
  pub others : (i j : ℕ) → (i ≡ x → ⊥) → j < stride → N i j ≡ M i j

-- N is M with x times row base + 1 for its row base + x, for every x below n
pub record Filled (m start cols base n : ℕ) (M N : Matrix) : Type 0 where
  pub rows : (x j : ℕ) → x < n → x < 2 ^ m → start ≤ j → j < cols → N (base + x) j ≡ mul m x (M (base + 1) j)
  pub before : (i j : ℕ) → i < base + 2 → j < stride → N i j ≡ M i j
  pub after : (i j : ℕ) → base + n ≤ i → j < stride → N i j ≡ M i j

-- f times the row is the sum of row f % 16 and row 16 + f / 16
pub record Multiples (m start cols : ℕ) (row : ℕ → ℕ) (N : Matrix) : Type 0 where
  pub sums : (f j : ℕ) → f < 2 ^ m → start ≤ j → j < cols → add (N (f % 16) j) (N (16 + f / 16) j) ≡ mul m f (row j)
