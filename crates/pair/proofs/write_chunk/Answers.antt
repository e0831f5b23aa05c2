-- `pair::write_chunk` meets its contract.
use native.Mathlib.Omega.{arith}
use Rattle.pair.proofs.Chunks.{chunk_first, chunk_more, chunk_all}
use Rattle.pair.proofs.write_chunk.Goals as goal

pub loop-b-init : goal.loop-b-init
loop-b-init c = chunk_first c.args.sizes.fit c.requires.rows c.requires.zeros c.write_depths.ensures

pub loop-b-preserved : goal.loop-b-preserved
loop-b-preserved c = chunk_more c.args.sizes.fit c.loop-b.b c.args.sizes.fewer c.loop-b.invariant c.add_multiple.ensures

pub returns : goal.returns
returns c = chunk_all (omega arith) c.loop-b.invariant
