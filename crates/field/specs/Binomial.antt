-- Odd binomials over one lower number.
use Rattle.std.specs.Prelude.{ℕ, ◌%◌, ◌<◌, ◌≡◌}
use Rattle.defs.specs.Field.{binom}

-- n is the next number after i whose binomial over j is odd
pub record NextOdd (i j n : ℕ) : Type 0 where
  pub above : i < n
  pub odd : binom n j % 2 ≡ 1
  pub even : (c : ℕ) → i < c → c < n → binom c j % 2 ≡ 0
