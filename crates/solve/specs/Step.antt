-- What each step of the elimination does to the matrix M, entry by entry, and what it keeps.
use Rattle.std.specs.Prelude.{ℕ, suc, ◌<◌, ◌≤◌, ◌≡◌, Option, Some, None}
use Rattle.defs.specs.Field.{add, mul}
use Rattle.defs.specs.Row.{sum_from}
use Rattle.solve.specs.Table.{stride}
use Rattle.solve.specs.System.{Matrix, Solves, free}

-- p is the first row from c on with an entry that is not 0 in column c
pub record IsPivot (rows c : ℕ) (M : Matrix) (p : ℕ) : Type 0 where
  pub from : c ≤ p
  pub to : p < rows
  pub before : (i : ℕ) → c ≤ i → i < p → M i c ≡ 0
  pub found : M p c ≡ 0 → ⊥

-- the rows from c on have 0 in column c
pub record NoPivot (rows c : ℕ) (M : Matrix) : Type 0 where
  pub none : (i : ℕ) → c ≤ i → i < rows → M i c ≡ 0

-- the first row from c on with an entry that is not 0 in column c, where there is one
abbrev pub Pivot : ℕ → ℕ → Matrix → Option ℕ → Type 0
Pivot rows c M (Some p) = IsPivot rows c M p
Pivot rows c M None = NoPivot rows c M

-- N is M with row p times f added to row r
pub record Added (m cols r p f : ℕ) (M N : Matrix) : Type 0 where
  pub row : (j : ℕ) → j < cols → N r j ≡ add (M r j) (mul m f (M p j))
  pub others : (i j : ℕ) → (i ≡ r → ⊥) → j < cols → N i j ≡ M i j

-- M and N have the same solutions
pub record Alike (m rows cols : ℕ) (M N : Matrix) : Type 0 where
  pub forth : (x : ℕ → ℕ) → Solves m M rows cols x → Solves m N rows cols x
  pub back : (x : ℕ → ℕ) → Solves m N rows cols x → Solves m M rows cols x

-- columns 0 to c - 1 have 1 on the diagonal and 0 below it
pub record Stairs (rows c : ℕ) (M : Matrix) : Type 0 where
  pub one : (k : ℕ) → k < c → M k k ≡ 1
  pub none : (i k : ℕ) → i < rows → k < c → k < i → M i k ≡ 0

-- row c leads: it has 1 in column c, and the rows after it and before i have 0 there
pub record Leads (rows c i : ℕ) (M : Matrix) : Type 0 where
  pub stairs : Stairs rows c M
  pub one : M c c ≡ 1
  pub none : (k : ℕ) → c < k → k < i → M k c ≡ 0

-- N is M with column k, times M's entry k of column c, added to column c above row k
pub record Spread (m c k : ℕ) (M N : Matrix) : Type 0 where
  pub above : (i : ℕ) → i < k → N i c ≡ add (M i c) (mul m (M i k) (M k c))
  pub below : (i : ℕ) → k ≤ i → N i c ≡ M i c
  pub others : (i j : ℕ) → j < stride → (j ≡ c → ⊥) → N i j ≡ M i j

-- column c of N holds the unknowns that the rows of M above row c ask, where unknown c is 1 and those after it are 0
pub record Back (m c : ℕ) (M N : Matrix) : Type 0 where
  pub asked : (i : ℕ) → i < c → N i c ≡ sum_from (suc i) (suc c) (λ j. mul m (M i j) (free N c j))
