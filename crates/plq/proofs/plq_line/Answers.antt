-- `plq_line`: what line answers is small enough to be packed.
use Rattle.plq.proofs.Small.{lined_small}
use Rattle.plq.proofs.plq_line.Goals as goal

pub pack-requires : goal.pack-requires
pack-requires c = lined_small c.line.ensures
