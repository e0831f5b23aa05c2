-- `put_all` writes each number behind a space; those from an index on are left.
use mathlib.Core.Path.{ap}
use native.Mathlib.Omega.{arith}
use lib.ListN.{length}
use Rattle.std.proofs.lemmas.Grind.{common_steps}
use Rattle.defs.specs.Line.{spaced}
use Rattle.line.proofs.put_all.Goals as goal

pub put_spaced-requires : goal.put_spaced-requires
unfolding spaced
put_spaced-requires c = grind (arith, common_steps, ap length c.loop-x.invariant)
