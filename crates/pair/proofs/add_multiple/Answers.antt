-- `pair::add_multiple` meets its contract.
use native.Mathlib.Omega.{arith}
use lib.Seq.{length-take-le}
use Rattle.theory.proofs.Spans.{span_tab, lent_behind, lent_before}
use Rattle.pair.proofs.Multiples.{added_none, added_more, added_all}
use Rattle.pair.proofs.add_multiple.Goals as goal

pub loop-j-init : goal.loop-j-init
loop-j-init c = added_none c.requires.symbols

pub loop-j-preserved : goal.loop-j-preserved
loop-j-preserved c =
    let parts = c.split_at_mut-before.ensures in
    let fit = c.loop-j.invariant.size in
    added_more _ _ c.loop-j.j (omega arith) (omega arith) (omega arith) c.product_row-products.ensures c.loop-j.invariant
    (λ a l. lent_behind _ _ _ a parts.back l)
    (λ a l. lent_before _ _ _ _ a parts.front (omega arith) (omega arith))
    (span_tab (omega (arith, fit)) parts.front parts.back (length-take-le _ _ (omega (arith, parts.back_len, fit))) c.add_products.ensures)

pub returns : goal.returns
returns c = added_all (omega arith) c.loop-j.invariant
