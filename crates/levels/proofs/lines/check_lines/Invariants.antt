-- `check_lines` meets its contract: the lines before what is left have passed.
use Prim.Native.Nat.{◌+◌}
use lib.ListN.{length}
use Rattle.levels.proofs.Checking.{Reached}
use Rattle.levels.proofs.lines.check_lines.Given as goal

abbrev pub invariant-loop-rest : goal.invariant-loop-rest
invariant-loop-rest l = Reached (l.top + 1) l.text l.rest l.line

abbrev pub decreases-loop-rest : goal.decreases-loop-rest
decreases-loop-rest l = length l.rest
