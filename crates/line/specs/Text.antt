-- The line of a slip.
use Rattle.std.specs.Prelude.{ℕ, ◌+◌, ◌*◌, ◌≤◌, List, length, take}
use Rattle.defs.specs.Limits.{longest}
use Rattle.defs.specs.Line.{RowLine}
use Rattle.defs.specs.declared.SlipRead.{SlipRead}

-- no line has more bytes
abbrev pub room : ℕ
room = 6 * longest + 8

-- the code and the row that s tells of, the points and the row being in front of two buffers
pub record Taken (s : SlipRead) (points row : List ℕ) : Type 0 where
  pub points_inside : s.count ≤ length points
  pub row_inside : s.r * s.count ≤ length row
  pub k_top : s.k ≤ longest
  pub count_top : s.count ≤ longest

-- the line of the row that s tells of
abbrev pub SlipLine : SlipRead → List ℕ → List ℕ → List ℕ → Type 0
SlipLine s points row text = RowLine s.m s.r s.k (take s.count points) (take (s.r * s.count) row) text
