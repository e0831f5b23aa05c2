-- `slip::layout::field_code` meets its contract: one way out for each field.
use Rattle.std.proofs.Common.{◌≡◌, lit<, arith}
use Rattle.defs.specs.Place.{least}
use Rattle.defs.specs.Slip.{width_of, field_code}
use Rattle.slip.proofs.layout.field_code.Goals as goal

pub returns-in-2 : goal.returns-in-2
unfolding field_code least width_of
returns-in-2 c = (rw c.in-2.is, lit< tt)

pub returns-in-4 : goal.returns-in-4
unfolding field_code least width_of
returns-in-4 c = (rw c.in-4.is, lit< tt)

pub returns-in_default : goal.returns-in_default
unfolding field_code least width_of
returns-in_default c = let e : c.args.field.m ≡ 8 = omega (arith, c.args.field.known) in
    (rw e, lit< tt)
