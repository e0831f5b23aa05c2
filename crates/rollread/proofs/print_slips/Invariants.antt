-- Each turn of `print_slips` leaves less of its part.
use Rattle.std.proofs.Common.{◌≤◌, length}
use Rattle.rollread.proofs.print_slips.Given as goal

abbrev pub invariant-loop-slip : goal.invariant-loop-slip
invariant-loop-slip g l = length l.rest ≤ length l.part

abbrev pub decreases-loop-slip : goal.decreases-loop-slip
decreases-loop-slip g l = length l.rest
