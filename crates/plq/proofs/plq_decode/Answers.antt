-- `plq_decode`: what decode answers is small enough to be packed.
use Rattle.plq.proofs.Small.{decoded_small}
use Rattle.plq.proofs.plq_decode.Goals as goal

pub pack-requires : goal.pack-requires
pack-requires c = decoded_small c.decode.ensures
