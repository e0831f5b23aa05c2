-- `pair::radius` meets its contract.
use mathlib.Core.Path.{refl}
use Rattle.defs.specs.Distance.{radius}
use Rattle.pair.proofs.radius.Goals as goal

pub returns : goal.returns
unfolding radius
returns c = refl
