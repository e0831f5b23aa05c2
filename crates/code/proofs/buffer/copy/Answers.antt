-- `code::buffer::copy` meets its contract: the bytes stand in front.
use Rattle.defs.specs.Write.{front}
use Rattle.code.proofs.buffer.copy.Goals as goal

pub returns : goal.returns
unfolding front
returns c = cc
