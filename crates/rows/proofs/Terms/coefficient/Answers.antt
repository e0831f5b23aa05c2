-- `coefficient` meets its contract: the terms below the power i are added.
use native.Mathlib.Omega.{arith}
use Rattle.rows.proofs.Hasse.{added_first, added_more, added_last}
use Rattle.rows.proofs.Terms.coefficient.Goals as goal

pub loop-i-init : goal.loop-i-init
loop-i-init c = added_first c.args.self.now _ _

pub loop-i-preserved : goal.loop-i-preserved
loop-i-preserved c = added_more c.args.self.now _ _ _ _ _ (omega arith) c.loop-i.invariant (rw c.from.ensures (c.requires.at _ (omega arith))) _ c.next_odd-i.ensures

pub returns : goal.returns
returns c = added_last _ _ _ _ _ _ c.loop-i.invariant c.loop-i-test.false
