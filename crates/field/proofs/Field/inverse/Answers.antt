-- `field::Field::inverse` meets its contract: the powers i and 2 ^ m - 1 - i of 2 are inverse.
use Rattle.field.proofs.Elements.{inverse_of}
use Rattle.field.proofs.Field.inverse.Goals as goal

pub returns : goal.returns
returns c = let e = rw (c.size.ensures, c.from.ensures) at c.exp.ensures in
    inverse_of _ c.args.self.known c.log.ensures e
