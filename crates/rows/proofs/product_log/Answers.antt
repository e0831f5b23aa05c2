-- `product_log` meets its contract: the sum of the logarithms is brought down below the field's size.
use Rattle.rows.proofs.PointPowers.{product_log}
use Rattle.rows.proofs.product_log.Goals as goal

pub returns : goal.returns
returns c = product_log _ c.args.field.known _ _ c.requires.0 c.requires.1 _ c.size-size.ensures
