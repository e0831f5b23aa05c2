-- `pair::write_depths` meets its contract.
use mathlib.Core.Path.{refl, ◌∙◌}
use native.Mathlib.Omega.{arith}
use lib.Seq.{length-take-le, get_or-take}
use Rattle.theory.proofs.Place.{zeros_zero}
use Rattle.solve.specs.Table.{stride}
use Rattle.theory.proofs.Spans.{span_tab, lent_before}
use Rattle.pair.proofs.Depths.{powers_first, powers_more, powers_all}
use Rattle.pair.proofs.write_depths.Goals as goal

pub loop-j-init : goal.loop-j-init
loop-j-init c =
    powers_first c.args.field.known c.product_row-products.ensures _ c.requires.symbols (λ a l. get_or-take c.args.n _ a 0 l ∙ zeros_zero stride a)
    (span_tab (omega arith) refl refl (length-take-le _ _ (omega arith)) c.write_depth.ensures)

pub loop-j-preserved : goal.loop-j-preserved
loop-j-preserved c =
    let parts = c.split_at_mut-before.ensures in
    powers_more c.args.field.known c.product_row-products.ensures _ c.loop-j.j (omega arith) c.requires.unknowns c.loop-j.invariant
    (λ a l. lent_before _ _ _ _ a parts.front (omega arith) (omega arith))
    (span_tab (omega (arith, c.loop-j.invariant.size)) parts.front parts.back (length-take-le _ _ (omega (arith, parts.back_len, c.loop-j.invariant.size))) c.write_depth-in-loop-j.ensures)

pub returns : goal.returns
returns c = powers_all (omega arith) c.loop-j.invariant
