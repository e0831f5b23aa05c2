-- Tables that an encode makes once: powers of 2 and logarithms, with a place for the logarithm of 0.
use Rattle.std.specs.Prelude.{ℕ, ◌+◌, ◌*◌, ◌-◌, ◌^◌, ◌<◌, ◌≤◌, ◌≡◌, List, length, get_or}
use Rattle.defs.specs.Field.{pow}
use Rattle.defs.specs.Limits.{longest}
use Rattle.field.specs.Arithmetic.{Logarithm}

-- the logarithm of 0: past the powers of every field, twice round
abbrev pub nowhere : ℕ
nowhere = 510

-- the length of the table of powers
abbrev pub places : ℕ
places = nowhere + 256

-- l is the logarithm of a
pub record LogOf (m a l : ℕ) : Type 0 where
  pub none : a ≡ 0 → l ≡ nowhere
  pub some : (a ≡ 0 → ⊥) → Logarithm m a l

-- the powers of 2, twice round, and zeros from nowhere on
pub record PowersOf (m : ℕ) (powers : List ℕ) : Type 0 where
  pub at : (i : ℕ) → i < 2 * (2 ^ m - 1) → get_or powers i 0 ≡ pow m 2 i
  pub zeros : (i : ℕ) → nowhere ≤ i → get_or powers i 0 ≡ 0

-- the logarithm of each symbol
pub record LogsFor (m : ℕ) (logs : List ℕ) : Type 0 where
  pub at : (a : ℕ) → a < 2 ^ m → LogOf m a (get_or logs a 0)

-- the logarithms of the symbols of s
pub record LogsOf (m : ℕ) (s logs : List ℕ) : Type 0 where
  pub at : (i : ℕ) → i < length s → LogOf m (get_or s i 0) (get_or logs i 0)

-- l is a logarithm of the product of the powers a and b of 2; it may be the order
pub record ProductLog (m a b l : ℕ) : Type 0 where
  pub below : l < 2 ^ m
  pub power : pow m 2 l ≡ pow m 2 (a + b)

-- e is a logarithm of the power i of P; it may be the order
pub record Exponent (m P i e : ℕ) : Type 0 where
  pub below : e < 2 ^ m
  pub power : pow m 2 e ≡ pow m P i

-- the logarithms of the powers of P below k
pub record ExponentsOf (m P k : ℕ) (table : List ℕ) : Type 0 where
  pub size : length table ≡ longest
  pub at : (i : ℕ) → i < k → Exponent m P i (get_or table i 0)
