-- `first_coefficient` meets its contract: the terms and the powers below i are done.
use Rattle.rows.proofs.PointPowers.{Walked}
use Rattle.rows.proofs.Terms.first_coefficient.Given as goal

abbrev pub invariant-loop-i : goal.invariant-loop-i
invariant-loop-i l = Walked l.self.field.m l.point l.self.message.now l.i l.e l.sum l.exponents
