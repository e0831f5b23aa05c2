-- `put_chunk` meets its contract: the last digits are written, and what is left of the level is the quotient.
use Rattle.levels.proofs.Words.{apart_more, apart_last}
use Rattle.levels.proofs.level.Scale.put_chunk.Goals as goal

pub loop-j-preserved : goal.loop-j-preserved
loop-j-preserved c = apart_more _ _ _ _ _ _ c.loop-j-test.true c.loop-j.auto.j c.loop-j.invariant

pub returns : goal.returns
returns c = rw (← c.size-q.ensures) (apart_last _ _ _ _ _ _ c.loop-j-test.false c.loop-j.invariant)
