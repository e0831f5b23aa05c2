-- `field::Field::product_row` meets its contract: each turn doubles the part that is filled.
use Rattle.std.proofs.lemmas.Nat.{one_shl}
use Rattle.std.proofs.Common.{arith}
use Rattle.theory.proofs.Width.{width_top}
use Rattle.field.proofs.Doubling.{first_fill, next_fill}
use Rattle.field.proofs.Field.product_row.Goals as goal

pub loop-i-init : goal.loop-i-init
loop-i-init c = first_fill _ _ c.requires

pub loop-i-preserved : goal.loop-i-preserved
loop-i-preserved c =
    let doubled = rw (one_shl c.loop-i.i 64 (omega (arith, width_top _ c.args.self.known))) at c.double.ensures in
    next_fill _ _ c.loop-i-test.true c.loop-i.invariant doubled c.times2-step.ensures
