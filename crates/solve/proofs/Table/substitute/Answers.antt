-- `solve::Table::substitute` meets its contract.
use mathlib.Core.Path.{refl, ◌∙◌}
use native.Mathlib.Omega.{arith}
use Rattle.solve.proofs.Unknowns.{backing_first, backing_more}
use Rattle.solve.proofs.Table.substitute.Goals as goal

pub loop-k-init : goal.loop-k-init
loop-k-init c = record { same_extent = refl; backing = backing_first _ _ (λ i j. c.args.self.now.symbols _) }

pub loop-k-preserved : goal.loop-k-preserved
loop-k-preserved c = let v = c.loop-k.invariant in
    let E = c.spread.ensures in
    record {
      same_extent = E.same_extent ∙ v.same_extent;
      backing = backing_more _ _ (omega arith) (omega arith) c.requires v.backing (rw v.same_extent at E.spread);
    }
