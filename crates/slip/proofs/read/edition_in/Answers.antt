-- `slip::read::edition_in` meets its contract: the edition is the first four bits.
use Rattle.defs.specs.Slip.{edition_in}
use Rattle.slip.proofs.read.edition_in.Goals as goal

pub returns : goal.returns
unfolding edition_in
returns c = c.number_at.ensures.0
