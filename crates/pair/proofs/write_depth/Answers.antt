-- `pair::write_depth` meets its contract.
use Prim.Native.Nat.{ℕ}
use mathlib.Core.Path.{sym, ap, ◌∙◌}
use native.Mathlib.Omega.{arith}
use Rattle.defs.specs.Field.{add}
use Rattle.theory.proofs.Field.{add_lt}
use Rattle.pair.specs.Fill.{look}
use Rattle.theory.proofs.Fill.{filled_none, filled_next, filled_all}
use Rattle.pair.proofs.Depths.{deeper_first, deeper_next}
use Rattle.pair.proofs.write_depth.Goals as goal

pub loop-a-init : goal.loop-a-init
loop-a-init c = (omega arith, sym (deeper_first _ _ _), filled_none _ 0 _)

pub loop-a-preserved : goal.loop-a-preserved
unfolding add
loop-a-preserved c = (
  add_lt 8 _ _ (omega (arith, c.type_inv.above c.loop-a.a)) (c.fits-products c.from.result),
  ap (λ (x : ℕ). add (look c.args.above.now c.loop-a.a) (look c.args.products.now x)) (c.from.ensures ∙ c.loop-a.invariant.1) ∙ sym (deeper_next _ _ _ _),
  rw (c.loop-a.invariant.2, c.loop-a.invariant.1) (filled_next _ _ c.loop-a.a (omega arith)),
)

pub returns : goal.returns
returns c = c.loop-a.invariant.2 ∙ filled_all _ _ _ (omega arith)
