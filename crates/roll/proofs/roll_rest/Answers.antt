-- `roll_rest` meets its contract: what is behind so many bytes.
use Prim.Native.Nat.{◌-◌}
use mathlib.Core.Path.{ap, ◌∙◌}
use lib.ListN.{length, drop, length-drop}
use lib.Seq.{take_all}
use borrow.Author.Rules.{rules}
use native.Mathlib.Omega.{arith}
use Rattle.roll.proofs.Parts.{first_within, rest_left}
use Rattle.roll.proofs.roll_rest.Goals as goal

pub returns : goal.returns
returns c = let roll = c.args.roll.now in
    let n = c.first_size.result in
    take_all (length roll - n) (drop n roll) (omega (arith, length-drop n roll)) ∙ ap (λ i. drop i roll) c.first_size.ensures ∙ rest_left roll

pub slice_bounds-result-count : goal.slice_bounds-result-count
slice_bounds-result-count c = omega (arith, c.first_size.ensures, first_within c.args.roll.now)

pub slice_bounds-result-start : goal.slice_bounds-result-start
slice_bounds-result-start c = search (rules, first_within c.args.roll.now)
