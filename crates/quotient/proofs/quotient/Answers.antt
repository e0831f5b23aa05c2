-- `quotient::quotient` meets its contract: from the top down, what is left is the product of the divisor and the message's low part.
use mathlib.Core.Path.{refl}
use Rattle.defs.specs.Limits.{longest}
use Rattle.defs.specs.Write.{front}
use Rattle.theory.proofs.Place.{zeros_symbols}
use Rattle.quotient.proofs.Division.{going_first, going_turn, no_divisor}
use Rattle.quotient.proofs.quotient.Goals as goal

pub loop-at-init : goal.loop-at-init
unfolding front
loop-at-init c = going_first _ _ _ _ c.requires _ _ refl (zeros_symbols _ longest) (rw c.copy_from_slice.ensures.after)

pub loop-at-preserved : goal.loop-at-preserved
loop-at-preserved c =
    let unit = rw c.in-Some.ensures.0 at c.in-Some.divisor.unit in
    let divided = rw c.in-Some.ensures.0 at c.divide_at.ensures in
    going_turn _ _ _ _ c.requires _ c.in-Some.ensures.1 c.in-Some.divisor.some _ unit _ _ _ _ _ c.loop-at-test.true c.loop-at.invariant divided

pub returns-in_default : goal.returns-in_default
returns-in_default c = no_divisor _ _ _ _ c.requires _ c.in_default.ensures refl (zeros_symbols _ longest)
