-- The working table: rows of one constant length, one after the other, read as a matrix.
use Rattle.std.specs.Prelude.{ℕ, ◌+◌, ◌*◌, ◌≡◌, List, length, get_or}
use Rattle.defs.specs.Field.{Width}
use Rattle.defs.specs.Place.{Symbols}
use Rattle.defs.specs.Limits.{longest}

-- the entries of a row of the table: a system has at most one unknown more than the longest row has symbols
abbrev pub stride : ℕ
stride = longest + 1

-- a system has at most one equation for each symbol of the longest row
abbrev pub table_size : ℕ
table_size = longest * stride

-- the entry in row i and column j
abbrev pub at : List ℕ → ℕ → ℕ → ℕ
at t i j = get_or t (i * stride + j) 0

-- a table of symbols of the field with 2 ^ m elements
pub record Shape (m : ℕ) (t : List ℕ) : Type 0 where
  pub width : Width m
  pub size : length t ≡ table_size
  pub symbols : Symbols m t
