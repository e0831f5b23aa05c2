-- `solve::Table::clear_below` meets its contract.
use mathlib.Core.Path.{refl, ◌∙◌}
use native.Mathlib.Omega.{arith}
use Rattle.solve.proofs.Steps.{alike_trans, added_alike}
use Rattle.solve.proofs.Columns.{leads_skip, leads_more}
use Rattle.solve.proofs.Sixteens.{made_same}
use Rattle.solve.proofs.Table.clear_below.Goals as goal
use Rattle.solve.proofs.Table.clear_below.Goals.{then-f-ne0, else-f-ne0}

pub loop-i-preserved : goal.loop-i-preserved
loop-i-preserved c =
    let v = c.loop-i.invariant in
    elim c.if-f-ne0.branch [
      | then-f-ne0 w ↦
          let E = w.add_to.ensures in
          let A = rw v.same_extent at E.added in
          rw w.self-is (record {
            same_extent = E.same_extent ∙ v.same_extent;
            alike = alike_trans _ _ _ v.alike (added_alike _ _ _ _ _ _ _ _ A (λ e. omega arith) c.requires.row);
            leads = leads_more _ _ _ _ c.requires.column (omega arith) (omega arith) v.leads (rw (← v.same_extent) (c.loop-i.self.symbols _)) refl A;
            multiples = made_same _ (λ j l. A.others _ j (λ e. omega arith) (rw c.of_row-multiples.ensures.same_columns at l)) v.multiples;
          })
      | else-f-ne0 w ↦ rw w.self-is (record { same_extent = v.same_extent; alike = v.alike; leads = leads_skip v.leads w.if-f-ne0.false; multiples = v.multiples })
    ]
