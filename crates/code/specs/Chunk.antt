-- A chunk handed about whole: eight symbols, unused ones zero.
use Rattle.std.specs.Prelude.{ℕ, List, ◌++◌, drop, replicate}
use Rattle.defs.specs.Place.{tab}
use Rattle.defs.specs.Limits.{deepest}

unfoldable pub blank : List ℕ
blank = replicate deepest 0

-- the chunk F 0, F 1, .., F (r - 1)
unfoldable pub chunk_of : ℕ → (ℕ → ℕ) → List ℕ
chunk_of r F = tab F r ++ drop r blank
