-- `level_of` meets its contract: v is the level of the symbols before an index.
use mathlib.Core.Path.{◌≡◌}
use lib.ListN.{get_or}
use Rattle.defs.specs.Levels.{level}
use Rattle.levels.proofs.level.Scale.level_of.Given as goal

abbrev pub invariant-loop-symbol : goal.invariant-loop-symbol
invariant-loop-symbol l = l.v ≡ level l.q l.symbol-index (λ i. get_or l.chunk i 0)
