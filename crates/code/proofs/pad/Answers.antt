-- `pad` meets its contract: the points are copied to the front of zeros.
use Rattle.code.specs.Checked.{zeros, padded}
use Rattle.code.proofs.pad.Goals as goal

pub returns : goal.returns
unfolding padded zeros
returns c = c.copy.ensures
