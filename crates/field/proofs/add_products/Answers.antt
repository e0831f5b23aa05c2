-- `field::add_products` meets its contract.
use Prim.Native.Nat.{ℕ}
use mathlib.Core.Path.{◌≡◌, ap, ◌∙◌}
use mathlib.Core.List.{List}
use native.Mathlib.Omega.{arith}
use lib.ListN.{get_or, set}
use Rattle.defs.specs.Field.{add}
use Rattle.theory.proofs.Fill.{filled_none, filled_next, filled_all, filled_rest}
use Rattle.field.proofs.add_products.Goals as goal

pub loop-a-init : goal.loop-a-init
loop-a-init c = filled_none _ 0 _

pub loop-a-preserved : goal.loop-a-preserved
unfolding add
loop-a-preserved c =
    let a = c.loop-a.a in
    let e : get_or c.loop-a.to a 0 ≡ get_or c.args.to.now a 0 = ap (λ (s : List ℕ). get_or s a 0) c.loop-a.invariant ∙ filled_rest _ _ a a (omega arith) in
    let product : ℕ = get_or c.args.products.now (get_or c.args.from.now a 0) 0 in
    rw c.from.ensures (ap (λ (x : ℕ). set c.loop-a.to a (add x product)) e ∙ rw c.loop-a.invariant (filled_next _ _ a (omega arith)))

pub returns : goal.returns
returns c = c.loop-a.invariant ∙ filled_all _ _ _ (omega arith)
