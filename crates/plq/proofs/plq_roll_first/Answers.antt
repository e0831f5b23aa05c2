-- `plq_roll_first`: a number and a slip's size are small enough to be packed.
use Rattle.std.proofs.Common.{arith}
use Rattle.defs.specs.Slip.{head_bits, slip_size}
use Rattle.roll.proofs.Parts.{first_top}
use Rattle.plq.proofs.Small.{number_small}
use Rattle.plq.proofs.plq_roll_first.Goals as goal

pub join-requires : goal.join-requires
unfolding slip_size head_bits
join-requires c =
    omega (arith, number_small c.roll_answer.result, c.number_in-number.ensures, c.first_size-size.ensures, first_top c.args.roll.now)
