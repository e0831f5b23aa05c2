-- `slip::layout::layout_of` meets its contract: a known edition has its own layout, and any other number that of the old one.
use mathlib.Core.Path.{◌≡◌, ap, ◌∙◌}
use mathlib.Core.Bool.{false}
use lib.Dec.{eqb}
use Rattle.std.specs.Result.{result_unwrap_or}
use Rattle.std.proofs.Common.{ℕ, Result, Ok, Err}
use Rattle.defs.specs.Slip.{layout_of}
use Rattle.defs.specs.declared.Refusal.{Refusal}
use Rattle.theory.proofs.Verdict.{or_false}
use Rattle.slip.specs.declared.layout.Edition.{Edition}
use Rattle.slip.specs.declared.layout.Edition.TheVariants.{Old}
use Rattle.slip.specs.Edition.{layout, Known}
use Rattle.slip.proofs.layout.layout_of.Goals as goal

else_old : (edition : ℕ) (r : Result Edition Refusal) → Known edition r → layout (result_unwrap_or r Old) ≡ layout_of edition
unfolding layout_of
else_old edition (Ok E) known = ap layout_of known
else_old edition (Err x) unknown = let e : eqb edition 2 ≡ false = (or_false (eqb edition 1) (eqb edition 2) unknown.1).1 in
    rw e

pub returns : goal.returns
returns c = c.layout.ensures.value ∙ ap layout c.unwrap_or.ensures ∙ else_old _ _ c.try_from.ensures
