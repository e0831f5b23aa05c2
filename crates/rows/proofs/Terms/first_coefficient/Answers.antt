-- `first_coefficient` meets its contract: the terms and the powers below i are done.
use native.Mathlib.Omega.{arith}
use Rattle.rows.proofs.PointPowers.{walked_first, walked_more}
use Rattle.rows.proofs.Hasse.{added_last}
use Rattle.rows.proofs.Terms.first_coefficient.Goals as goal

pub loop-i-init : goal.loop-i-init
loop-i-init c = walked_first c.args.self.now _ _ (omega arith)

pub loop-i-preserved : goal.loop-i-preserved
loop-i-preserved c = walked_more c.args.self.now _ _ _ _ _ c.loop-i.invariant (omega arith) _ _ (rw c.from.ensures ((c.args.self.now.logs_for.at _ c.requires.0).some c.requires.1)) c.product_log-e.ensures

pub returns-clause-value : goal.returns-clause-value
returns-clause-value c = added_last _ _ _ _ _ _ c.loop-i.invariant.added c.loop-i-test.false
