-- `pair::unknowns` meets its contract.
use Prim.Native.Nat.{ℕ, ◌+◌}
use mathlib.Core.Path.{◌≡◌, ap, ◌∙◌}
use native.Mathlib.Omega.{arith}
use lib.Seq.{take_at, length-take-le}
use Rattle.defs.specs.Place.{tab}
use Rattle.theory.proofs.Fill.{filled_none, filled_next, filled_all}
use Rattle.theory.proofs.Place.{length_tab}
use Rattle.solve.specs.Table.{at}
use Rattle.solve.specs.System.{free}
use Rattle.pair.proofs.unknowns.Goals as goal

pub loop-a-init : goal.loop-a-init
loop-a-init c = filled_none _ 0 _

pub loop-a-preserved : goal.loop-a-preserved
loop-a-preserved c = rw (c.loop-a.invariant, c.unknown.ensures) (filled_next _ _ c.loop-a.a (omega arith))

pub returns : goal.returns
returns c =
    let n = c.args.n in
    let F : ℕ → ℕ = λ i. free (at c.args.t.now.entries) c.args.c (c.args.first + i) in
    let e : c.loop-a.coefficient-items ≡ tab F n = c.loop-a.invariant ∙ filled_all _ F _ (omega arith) ∙ ap (tab F) (length-take-le n _ (omega arith)) in
    rw e (take_at (tab F n) _ n (length_tab F n))
