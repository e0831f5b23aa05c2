-- `field::Field::exp` meets its contract: by the rule of the table.
use Rattle.field.proofs.Elements.{power_in}
use Rattle.field.proofs.Field.exp.Goals as goal

pub returns : goal.returns
returns c = power_in _ c.args.self.known c.powers.ensures _ c.requires
