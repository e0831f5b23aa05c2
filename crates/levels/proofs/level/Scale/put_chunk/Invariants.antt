-- `put_chunk` meets its contract: the last digits are written, and what is left of the level is the quotient.
use Rattle.levels.proofs.Words.{Apart}
use Rattle.levels.proofs.level.Scale.put_chunk.Given as goal

abbrev pub invariant-loop-j : goal.invariant-loop-j
invariant-loop-j l = Apart l.q l.fn.self.r l.v l.j l.rest l.chunk
