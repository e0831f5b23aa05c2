-- `write` meets its contract: the chunks of the first i points are written.
use mathlib.Core.Path.{◌∙◌}
use native.Mathlib.Omega.{arith}
use Rattle.rows.proofs.Writing.{written_none, written_more, written_all}
use Rattle.rows.proofs.Terms.write.Goals as goal

pub loop-i-init : goal.loop-i-init
loop-i-init c = written_none _ _ _ _ _

pub loop-i-preserved : goal.loop-i-preserved
loop-i-preserved c = written_more _ _ _ _ _ _ _ _ _ c.loop-i.invariant c.loop-i-test.true c.chunk_at-chunk.ensures c.store.ensures

pub returns : goal.returns
returns c = c.loop-i.invariant ∙ written_all _ _ _ _ _ _ (omega arith) c.requires.room
