-- `plq_slip_read`: each part of the slip reader's answer has room in a byte.
use Rattle.plq.proofs.Small.{read_narrow}
use Rattle.plq.proofs.plq_slip_read.Goals as goal

pub pack_read-requires : goal.pack_read-requires
pack_read-requires c = read_narrow c.slip_read.ensures
