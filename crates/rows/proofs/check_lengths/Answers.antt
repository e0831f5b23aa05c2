-- `check_lengths` meets its contract: the tests of the verdict are those of the code.
use native.Mathlib.Omega.{arith}
use Rattle.std.proofs.lemmas.Bool.Decides.{nat_tests}
use Rattle.defs.specs.Refusal.{refuse}
use Rattle.defs.specs.Encode.{distance_verdict}
use Rattle.rows.proofs.check_lengths.Goals as goal

pub returns-then-r-eq0 : goal.returns-then-r-eq0
unfolding distance_verdict refuse
returns-then-r-eq0 c = grind (arith, nat_tests)

pub returns-then-n-other : goal.returns-then-n-other
unfolding distance_verdict refuse
returns-then-n-other c = grind (arith, nat_tests)

pub returns : goal.returns
unfolding distance_verdict refuse
returns c = grind (arith, nat_tests)
