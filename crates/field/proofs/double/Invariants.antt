-- `field::double` meets its contract: the loop copies one entry a turn.
use Rattle.field.specs.Arithmetic.{Doubled}
use Rattle.field.proofs.double.Given as goal

abbrev pub invariant-loop-j : goal.invariant-loop-j
invariant-loop-j l = Doubled l.size l.step l.j l.initial.row l.row
