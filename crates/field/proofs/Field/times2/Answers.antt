-- `field::Field::times2` meets its contract: below half the double is itself, and else the modulus is added.
use Rattle.defs.specs.Field.{add}
use Rattle.field.proofs.Twice.{rest_8, rest_small, doubled_low, doubled_high}
use Rattle.field.proofs.Field.times2.Goals as goal

pub returns-then-a-half : goal.returns-then-a-half
returns-then-a-half c = doubled_low _ _ c.half-half.ensures c.if-a-half.true

pub returns-then-self-eq8 : goal.returns-then-self-eq8
unfolding add
returns-then-self-eq8 c = doubled_high _ _ 29 c.args.self.known c.half-half.ensures c.if-a-half.false c.requires (rest_8 _ c.if-self-eq8.true)

pub returns : goal.returns
unfolding add
returns c = doubled_high _ _ 3 c.args.self.known c.half-half.ensures c.if-a-half.false c.requires (rest_small _ c.args.self.known c.if-self-eq8.false)
