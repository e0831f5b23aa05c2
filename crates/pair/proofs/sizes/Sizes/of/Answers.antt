-- `pair::sizes::Sizes::of` meets its contract.
use native.Mathlib.Omega.{arith}
use Rattle.defs.specs.Distance.{radius}
use Rattle.pair.proofs.sizes.Sizes.of.Goals as goal

pub overflow_add-result-2 : goal.overflow_add-result-2
unfolding radius
overflow_add-result-2 c = omega (arith, c.radius.ensures)

pub invariant_of-result : goal.invariant_of-result
unfolding radius
invariant_of-result c = record { some = omega arith; fewer = omega (arith, c.radius.ensures); fit = omega (arith, c.radius.ensures) }
