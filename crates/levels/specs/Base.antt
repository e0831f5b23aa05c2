-- A base and a depth whose levels are machine words, and a row whose levels are to be written.
use Rattle.std.specs.Prelude.{ℕ, ◌*◌, ◌%◌, ◌<◌, ◌≤◌, ◌≡◌, List, length}
use Rattle.defs.specs.Place.{Symbols}
use Rattle.defs.specs.Limits.{deepest, longest}

pub record Base (q r : ℕ) : Type 0 where
  pub more : 1 < q
  pub small : q ≤ 256
  pub some : 0 < r
  pub depth : r ≤ deepest

-- no text of a row has more bytes
abbrev pub room : ℕ
room = 4 * longest

-- a row of whole chunks, all symbols of the field
pub record Leveled (m r : ℕ) (w : List ℕ) : Type 0 where
  pub symbols : Symbols m w
  pub whole : length w % r ≡ 0
  pub short : length w ≤ longest
