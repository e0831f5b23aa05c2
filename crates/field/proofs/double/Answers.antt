-- `field::double` meets its contract: the loop copies one entry a turn.
use native.Mathlib.Omega.{arith}
use Rattle.field.proofs.Doubling.{next_copy}
use Rattle.field.proofs.double.Goals as goal

pub loop-j-preserved : goal.loop-j-preserved
loop-j-preserved c = next_copy _ _ _ _ _ (omega arith) c.loop-j-test.true c.loop-j.invariant
