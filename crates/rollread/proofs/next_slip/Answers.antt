-- `next_slip`: the first slip of a part is within it.
use Rattle.std.proofs.Common.{length, ap, arith}
use Rattle.roll.proofs.Parts.{first_within}
use Rattle.rollread.proofs.next_slip.Goals as goal

pub split_at-requires : goal.split_at-requires
split_at-requires c = omega (arith, ap length c.roll_first-first.ensures, first_within c.args.part.now)
