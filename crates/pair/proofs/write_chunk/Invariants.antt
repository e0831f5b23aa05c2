-- `pair::write_chunk` meets its contract.
use lib.ListN.{length}
use Rattle.pair.specs.Fill.{look, Chunk}
use Rattle.pair.proofs.write_chunk.Given as goal

abbrev pub invariant-loop-b : goal.invariant-loop-b
invariant-loop-b l = Chunk l.field.m (length l.chunk) l.sizes.s0 l.sizes.s1 l.point (look l.chunk) l.b l.rows
