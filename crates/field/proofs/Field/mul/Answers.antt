-- `field::Field::mul` meets its contract: the product of two powers of 2 is the power of the sum.
use Rattle.field.proofs.Elements.{zero_l, zero_r, product_of}
use Rattle.field.proofs.Field.mul.Goals as goal
use Rattle.field.proofs.Field.mul.Goals.{then-a-eq0-via-then-a-eq0, then-a-eq0-via-else-a-eq0+then-b-eq0}

pub returns-then-a-eq0 : goal.returns-then-a-eq0
returns-then-a-eq0 c = elim c.then-a-eq0.branch [
  | then-a-eq0-via-then-a-eq0 w ↦ zero_l _ _ _ w.if-a-eq0.true
  | then-a-eq0-via-else-a-eq0+then-b-eq0 w ↦ zero_r _ _ _ w.if-b-eq0.true
]

pub returns : goal.returns
returns c = product_of _ c.args.self.known c.log.ensures c.log-2.ensures (rw (c.from.ensures, c.from-2.ensures) at c.exp.ensures)
