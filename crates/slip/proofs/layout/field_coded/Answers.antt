-- `slip::layout::field_coded` meets its contract: one way out for each field, and one for none.
use Rattle.std.proofs.Common.{[], ◌∷◌, arith}
use lib.ListN.{get_or-eq_default}
use Rattle.defs.specs.Slip.{width_of}
use Rattle.slip.proofs.layout.field_coded.Goals as goal

pub returns-in-0 : goal.returns-in-0
unfolding width_of
returns-in-0 c = rw c.in-0.is

pub returns-in-1 : goal.returns-in-1
unfolding width_of
returns-in-1 c = rw c.in-1.is

pub returns-in-2 : goal.returns-in-2
unfolding width_of
returns-in-2 c = rw c.in-2.is

pub returns-in_default : goal.returns-in_default
unfolding width_of
returns-in_default c = get_or-eq_default (2 ∷ 4 ∷ 8 ∷ []) 0 {n = c.args.code} (omega arith)
