-- `first_size` meets its contract: 0 on a refusal, when there is no first part.
use Rattle.roll.proofs.Parts.{end_or_none}
use Rattle.roll.proofs.first_size.Goals as goal

pub returns : goal.returns
returns c = rw (c.unwrap_or.ensures, c.first_end.ensures) (end_or_none c.args.roll.now)
