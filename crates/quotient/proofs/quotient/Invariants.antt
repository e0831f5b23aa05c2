-- `quotient::quotient` meets its contract: from the top down, what is left is the product of the divisor and the message's low part.
use Rattle.quotient.proofs.Division.{Going}
use Rattle.quotient.proofs.quotient.Given as goal

abbrev pub invariant-loop-at : goal.invariant-loop-at
invariant-loop-at l = Going l.fn.field.m l.k l.q0 l.q1 l.f l.rem l.at
