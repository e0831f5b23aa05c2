-- The limits of a code as plain facts.
use Rattle.std.specs.Prelude.{ℕ, ◌*◌, ◌^◌, ◌<◌, ◌≤◌, ◌≡◌, List, length, get_or}
use Rattle.defs.specs.Field.{Width}
use Rattle.defs.specs.Place.{Symbols}
use Rattle.defs.specs.Limits.{deepest, longest}

-- of the points P i, i < n, no two are equal
abbrev pub Distinct : ℕ → (ℕ → ℕ) → Type 0
Distinct n P = (i k : ℕ) → i < k → k < n → P i ≡ P k → ⊥

-- 1 to 4
pub record Numbers (m r k count : ℕ) : Type 0 where
  pub width : Width m
  pub r_pos : 0 < r
  pub r_top : r ≤ deepest
  pub count_pos : 0 < count
  pub count_top : count ≤ 2 ^ m
  pub row_top : r * count ≤ longest
  pub k_pos : 0 < k
  pub k_top : k ≤ r * count

-- and 5 and 6
pub record Limits (m r k : ℕ) (points : List ℕ) : Type 0 where
  pub numbers : Numbers m r k (length points)
  pub symbols : Symbols m points
  pub distinct : Distinct (length points) (λ i. get_or points i 0)
