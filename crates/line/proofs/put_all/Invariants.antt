-- `put_all` writes each number behind a space; those from an index on are left.
use mathlib.Core.Path.{◌≡◌}
use mathlib.Core.List.{◌++◌}
use lib.ListN.{drop}
use Rattle.defs.specs.Line.{spaced}
use Rattle.line.proofs.put_all.Given as goal

abbrev pub invariant-loop-x : goal.invariant-loop-x
invariant-loop-x l = l.text ++ spaced (drop l.x-index l.s) ≡ l.initial.text ++ spaced l.s
