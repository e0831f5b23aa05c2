-- What the functions answer: elements, inverses, logarithms, and tables to look up in.
use Rattle.std.specs.Prelude.{ℕ, ◌+◌, ◌*◌, ◌-◌, ◌^◌, ◌<◌, ◌≤◌, ◌≡◌, List, length, get_or}
use Rattle.defs.specs.Field.{add, mul, pow}

-- r is v, and an element of the field
pub record Element (m v r : ℕ) : Type 0 where
  pub is : r ≡ v
  pub small : r < 2 ^ m

pub record Inverse (m a r : ℕ) : Type 0 where
  pub unit : mul m a r ≡ 1
  pub small : r < 2 ^ m

pub record Logarithm (m a l : ℕ) : Type 0 where
  pub power : pow m 2 l ≡ a
  pub below : l < 2 ^ m - 1

-- the powers of 2, twice round
pub record Powers (m : ℕ) (table : List ℕ) : Type 0 where
  pub size : length table ≡ 2 * (2 ^ m - 1)
  pub at : (i : ℕ) → i < 2 * (2 ^ m - 1) → get_or table i 0 ≡ pow m 2 i

pub record Logarithms (m : ℕ) (table : List ℕ) : Type 0 where
  pub size : length table ≡ 2 ^ m
  pub at : (a : ℕ) → a < 2 ^ m → (a ≡ 0 → ⊥) → Logarithm m a (get_or table a 0)

-- the multiples of c
pub record Products (m c : ℕ) (row : List ℕ) : Type 0 where
  pub size : length row ≡ 256
  pub at : (x : ℕ) → x < 2 ^ m → get_or row x 0 ≡ mul m c x
  pub small : (x : ℕ) → get_or row x 0 < 2 ^ m

-- count entries from the first on, once more from size on, each with step added
pub record Doubled (size step count : ℕ) (old new : List ℕ) : Type 0 where
  pub long : length new ≡ length old
  pub low : (x : ℕ) → x < size → get_or new x 0 ≡ get_or old x 0
  pub high : (x : ℕ) → x < count → get_or new (size + x) 0 ≡ add (get_or old x 0) step
  pub rest : (x : ℕ) → size + count ≤ x → get_or new x 0 ≡ get_or old x 0
