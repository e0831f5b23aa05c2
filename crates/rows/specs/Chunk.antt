-- What the functions on chunks and rows are given.
use Rattle.std.specs.Prelude.{ℕ, ◌*◌, ◌^◌, ◌<◌, ◌≤◌, ◌≡◌, ◌==◌, List, length}
use Rattle.std.specs.List.{take_while, zip}
use Rattle.defs.specs.Field.{Width}
use Rattle.defs.specs.Place.{Symbols}
use Rattle.defs.specs.Row.{Message}
use Rattle.defs.specs.Limits.{deepest, longest}
use Rattle.defs.specs.declared.Code.{Code}
use Rattle.rows.specs.Tables.{PowersOf, LogsFor, LogsOf}

-- a message f is evaluated at a point, to depth r
pub record Evaluable (m r P : ℕ) (f symbols logs powers : List ℕ) : Type 0 where
  pub width : Width m
  pub short : length f ≤ longest
  pub symbols_are : LogsOf m f symbols
  pub powers_are : PowersOf m powers
  pub depth : (1 ≤ r) × (r ≤ deepest)
  pub point : P < 2 ^ m
  pub message : Symbols m f
  pub logs_are : LogsFor m logs

-- the row of a message f of the code is to be written over another
pub record Writable (c : Code) (f row : List ℕ) : Type 0 where
  pub message : Message c.m c.k f
  pub room : length row ≡ c.r * c.count

-- the number of symbols in front that two chunks have alike
abbrev pub common_front : List ℕ → List ℕ → ℕ
common_front u w = length (take_while (λ p. p.0 == p.1) (zip u w))

-- two rows both have count chunks
pub record Rows (r count : ℕ) (u w : List ℕ) : Type 0 where
  pub depth : r ≤ deepest
  pub few : count ≤ longest
  pub left : count * r ≤ length u
  pub right : count * r ≤ length w
