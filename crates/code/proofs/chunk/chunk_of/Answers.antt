-- `code::chunk::chunk_of` meets its contract: the symbols are copied to the front of zeros.
use Prim.Native.Nat.{◌+◌, ◌-◌}
use mathlib.Core.Path.{◌≡◌}
use native.Mathlib.Omega.{arith}
use Rattle.code.proofs.Chunks.{chunk_copied}
use Rattle.code.proofs.chunk.chunk_of.Goals as goal

pub returns : goal.returns
returns c =
    let e : c.args.at + c.args.r - c.args.at ≡ c.args.r = omega arith in
    chunk_copied c.args.s.now _ c.args.at c.args.r c.requires.1 (rw e at c.copy_from_slice.ensures.after)
