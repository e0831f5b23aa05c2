-- `solve::multiples::RowMultiples::fill` meets its contract.
use mathlib.Core.Path.{refl, ◌∙◌}
use native.Mathlib.Omega.{arith}
use Rattle.solve.proofs.Sixteens.{filled_first, filled_next}
use Rattle.solve.proofs.multiples.RowMultiples.fill.Goals as goal

pub loop-x-init : goal.loop-x-init
loop-x-init c = record { same_columns = refl; filled = filled_first _ _ _ _ c.args.self.now.columns.fit c.requires.zero (λ i j. c.args.self.now.symbols _) }

pub loop-x-preserved : goal.loop-x-preserved
loop-x-preserved c = let E = c.set_multiple.ensures in
    let v = c.loop-x.invariant in
    record { same_columns = E.same_columns ∙ v.same_columns; filled = filled_next _ _ _ _ c.args.self.now.columns.fit (omega arith) v.filled (rw v.same_columns at E.set) }
