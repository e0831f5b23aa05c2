-- One bits of numbers.
use Rattle.std.specs.Prelude.{ℕ, ◌/◌, ◌%◌, ◌^◌, ◌≡◌}

-- every one bit of b is also a one bit of a
unfoldable pub BitsWithin : ℕ → ℕ → Type 0
BitsWithin b a = (i : ℕ) → b / 2 ^ i % 2 ≡ 1 → a / 2 ^ i % 2 ≡ 1
