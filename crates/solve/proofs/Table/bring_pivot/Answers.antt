-- `solve::Table::bring_pivot` meets its contract.
use mathlib.Core.Path.{sym}
use native.Mathlib.Omega.{arith}
use Rattle.defs.specs.Field.{add}
use Rattle.theory.proofs.Generator.{one_lt}
use Rattle.solve.proofs.Steps.{alike_trans, added_alike, scaled_alike}
use Rattle.solve.proofs.Columns.{stairs_one, leads_here, leads_added}
use Rattle.solve.proofs.Table.bring_pivot.Goals as goal

pub add_row-requires-then-p-c-clause-zero_before : goal.add_row-requires-then-p-c-clause-zero_before
unfolding add
add_row-requires-then-p-c-clause-zero_before c = let pre = c.requires in
    let S = c.args.self.now.symbols in λ j l.
    (stairs_one _ _ _ _ pre.column _ _ pre.stairs pre.pivot (S _) c.inverse-a.ensures.unit c.add_row.ensures.added).none _ j pre.pivot.to l (omega (arith, pre.pivot.from))

pub returns-then-p-c-clause-alike : goal.returns-then-p-c-clause-alike
unfolding add
returns-then-p-c-clause-alike c = let A = c.add_row.ensures in
    let B = rw A.same_extent at c.add_row-then-p-c.ensures.added in
    alike_trans _ _ _ (scaled_alike _ _ _ _ _ _ _ _ A.added c.inverse-a.ensures.unit) (added_alike _ _ _ _ _ _ _ _ B (λ w. c.if-p-c.true (sym w)) c.requires.pivot.to)

pub returns-then-p-c-clause-leads : goal.returns-then-p-c-clause-leads
unfolding add
returns-then-p-c-clause-leads c = let pre = c.requires in
    let T = c.args.self.now in
    let A = c.add_row.ensures in
    let B = rw A.same_extent at c.add_row-then-p-c.ensures.added in
    leads_added _ _ _ _ pre.column _ _ pre.stairs pre.pivot (T.symbols _) c.inverse-a.ensures.unit A.added (one_lt _ T.extent.field.known) c.if-p-c.true B

pub returns-else-p-c-clause-alike : goal.returns-else-p-c-clause-alike
unfolding add
returns-else-p-c-clause-alike c = scaled_alike _ _ _ _ _ _ _ _ c.add_row.ensures.added c.inverse-a.ensures.unit

pub returns-else-p-c-clause-leads : goal.returns-else-p-c-clause-leads
unfolding add
returns-else-p-c-clause-leads c = let pre = c.requires in
    leads_here _ _ _ _ pre.column _ _ pre.stairs pre.pivot (c.args.self.now.symbols _) c.inverse-a.ensures.unit c.add_row.ensures.added c.if-p-c.false
