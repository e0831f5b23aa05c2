-- `solve::Table::eliminate` meets its contract.
use mathlib.Core.Path.{◌∙◌}
use native.Mathlib.Omega.{arith}
use Rattle.theory.proofs.Generator.{one_lt}
use Rattle.solve.proofs.Steps.{alike_trans}
use Rattle.solve.proofs.Free.{answer_free, answer_full}
use Rattle.solve.proofs.Table.eliminate.Goals as goal

pub loop-c-preserved : goal.loop-c-preserved
loop-c-preserved c = let v = c.loop-c.invariant in
    let B = c.bring_pivot.ensures in
    let C = c.clear_below.ensures in
    let brought = B.same_extent ∙ v.same_extent in
    record {
      within = rw (C.same_extent, B.same_extent) (omega (arith, c.in-Some.ensures.from, c.in-Some.ensures.to));
      same_extent = C.same_extent ∙ brought;
      alike = alike_trans _ _ _ v.alike (alike_trans _ _ _ (rw v.same_extent at B.alike) (rw brought at C.alike));
      stairs = rw brought at C.stairs;
    }

pub returns-clause-answers : goal.returns-clause-answers
returns-clause-answers c = let v = c.loop-c.invariant in
    answer_full _ _ _ v.alike _ (omega arith) (rw v.same_extent at v.within) v.stairs

pub returns-in_default-clause-answers : goal.returns-in_default-clause-answers
returns-in_default-clause-answers c = let v = c.loop-c.invariant in
    let T = c.substitute.new.self in
    answer_free _ _ _ v.alike _ c.loop-c-test.true v.stairs (rw v.same_extent at c.in_default.ensures) (rw v.same_extent at c.substitute.ensures.back) (one_lt _ c.args.self.now.extent.field.known) (λ i j. rw (← c.substitute.ensures.same_extent ∙ v.same_extent) (T.symbols _))
