-- What `walk_all` has left fits its buffer.
use Rattle.std.proofs.Common.{◌≤◌, length}
use Rattle.rollread.proofs.walk_all.Given as goal

abbrev pub invariant-loop : goal.invariant-loop
invariant-loop g l = l.left ≤ length l.buf
