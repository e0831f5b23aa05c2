-- `roll_first` meets its contract: so many bytes are the first part.
use mathlib.Core.Path.{ap, sym, ◌∙◌}
use native.Mathlib.Omega.{arith}
use lib.ListN.{take}
use lib.Seq.{length-take-le}
use Rattle.roll.proofs.Parts.{first_within, first_taken}
use Rattle.roll.proofs.roll_first.Goals as goal

pub returns : goal.returns
returns c = ap (λ n. take n c.args.roll.now) c.first_size.ensures ∙ first_taken c.args.roll.now

pub slice_bounds-result-end : goal.slice_bounds-result-end
slice_bounds-result-end c = sym (length-take-le _ _ (omega (arith, c.first_size.ensures, first_within c.args.roll.now)))
