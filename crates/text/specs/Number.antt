-- A number that is read from digits, up to a highest one.
use Rattle.std.specs.Prelude.{ℕ, ◌+◌, ◌*◌, ◌-◌, ◌≡◌, cond, List, leb, Option, Some, None}
use Rattle.defs.specs.Text.{digit_count, value_from}
use Rattle.text.specs.declared.number.Number.{Number}

-- v, where it is at most top
unfoldable pub capped : ℕ → ℕ → Option ℕ
capped top v = cond (leb v top) (Some v) None

-- a digit b more
pub record Grown (top : ℕ) (old : Option ℕ) (b : ℕ) (new : Option ℕ) : Type 0 where
  pub grows : (v : ℕ) → old ≡ capped top v → new ≡ capped top (v * 10 + (b - 48))

-- the digits in front of s
unfoldable pub number_in : ℕ → List ℕ → Number
number_in top s = record { end = digit_count s; value = capped top (value_from 0 s) }
