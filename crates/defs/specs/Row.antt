-- Rows: formula (2) of the paper (DOI 10.1109/18.850696).
use Rattle.std.specs.Prelude.{ℕ, zero, suc, ◌+◌, ◌*◌, ◌-◌, ◌%◌, ◌≡◌, List, [], ◌∷◌, ◌++◌, length, get_or}
use Rattle.defs.specs.Field.{add, mul, pow, binom}
use Rattle.defs.specs.Place.{tab, Symbols}

-- a message of k symbols, the lowest power first
pub record Message (m k : ℕ) (f : List ℕ) : Type 0 where
  pub size : length f ≡ k
  pub symbols : Symbols m f

-- the sum of F i over i < n, in the field
unfoldable pub sum : ℕ → (ℕ → ℕ) → ℕ
sum zero F = 0
sum (suc n) F = add (F 0) (sum n (λ i. F (suc i)))

-- the sum of F i over j ≤ i < n, in the field
unfoldable pub sum_from : ℕ → ℕ → (ℕ → ℕ) → ℕ
sum_from j n F = sum (n - j) (λ i. F (j + i))

-- (2): the Hasse coefficient j of f at P, the sum over i ≥ j of f_i P^(i - j) C(i, j), the binomial taken modulo 2
unfoldable pub coefficient : ℕ → List ℕ → ℕ → ℕ → ℕ
coefficient m f P j = sum_from j (length f) (λ i. binom i j % 2 * mul m (get_or f i 0) (pow m P (i - j)))

-- the row of f: at each point its first r coefficients
unfoldable pub row_of : ℕ → ℕ → List ℕ → List ℕ → List ℕ
row_of m r [] f = []
row_of m r (P ∷ points) f = tab (coefficient m f P) r ++ row_of m r points f
