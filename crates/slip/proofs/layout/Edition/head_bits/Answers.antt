-- `slip::layout::Edition::head_bits` meets its contract: it is what the definition says.
use Rattle.defs.specs.Slip.{head_bits}
use Rattle.slip.proofs.layout.Edition.head_bits.Goals as goal

pub returns : goal.returns
unfolding head_bits
returns c = rw c.layout-layout.ensures.value
