-- `field::add_products` meets its contract.
use mathlib.Core.Path.{◌≡◌}
use lib.ListN.{get_or}
use Rattle.defs.specs.Field.{add}
use Rattle.theory.specs.Fill.{filled}
use Rattle.field.proofs.add_products.Given as goal

abbrev pub invariant-loop-a : goal.invariant-loop-a
invariant-loop-a l = l.to ≡ filled l.initial.to 0 (λ i. add (get_or l.initial.to i 0) (get_or l.products (get_or l.from i 0) 0)) l.a
