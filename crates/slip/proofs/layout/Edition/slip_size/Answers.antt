-- `slip::layout::Edition::slip_size` meets its contract: no step of it wraps.
use Rattle.defs.specs.Slip.{slip_size}
use Rattle.slip.proofs.layout.Edition.slip_size.Goals as goal

pub returns : goal.returns
unfolding slip_size
returns c = rw c.head_bits.ensures
