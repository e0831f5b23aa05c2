-- `read_number` reads digit after digit; those before an index make the number so far.
use Rattle.text.proofs.Numbers.{Begun}
use Rattle.text.proofs.number.read_number.Given as goal

abbrev pub invariant-loop-end : goal.invariant-loop-end
invariant-loop-end l = Begun l.top l.text l.end l.value
