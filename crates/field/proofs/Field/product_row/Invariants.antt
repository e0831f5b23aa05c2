-- `field::Field::product_row` meets its contract: each turn doubles the part that is filled.
use Rattle.field.proofs.Doubling.{Filled}
use Rattle.field.proofs.Field.product_row.Given as goal

abbrev pub invariant-loop-i : goal.invariant-loop-i
invariant-loop-i l = Filled l.self.m l.c l.i l.step l.row
