-- `solve::multiples::RowMultiples::fill` meets its contract.
use mathlib.Core.Path.{◌≡◌}
use Rattle.solve.specs.Table.{at}
use Rattle.solve.specs.Multiples.{Filled}
use Rattle.solve.proofs.multiples.RowMultiples.fill.Given as goal

abbrev pub invariant-loop-x : goal.invariant-loop-x
invariant-loop-x l = record {
  same_columns : l.self.columns ≡ l.initial.self.columns;
  filled : Filled l.initial.self.columns.field.m l.initial.self.columns.start l.initial.self.columns.end l.base l.x (at l.initial.self.entries) (at l.self.entries);
}
