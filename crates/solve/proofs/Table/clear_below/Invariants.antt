-- `solve::Table::clear_below` meets its contract.
use mathlib.Core.Path.{◌≡◌}
use Rattle.solve.specs.Table.{at}
use Rattle.solve.specs.Step.{Alike, Leads}
use Rattle.solve.specs.Multiples.{Multiples}
use Rattle.solve.proofs.Table.clear_below.Given as goal

abbrev pub invariant-loop-i : goal.invariant-loop-i
invariant-loop-i l = record {
  same_extent : l.self.extent ≡ l.initial.self.extent;
  alike : Alike l.initial.self.extent.field.m l.initial.self.extent.rows l.initial.self.extent.cols (at l.initial.self.entries) (at l.self.entries);
  leads : Leads l.initial.self.extent.rows l.c l.i (at l.self.entries);
  multiples : Multiples l.initial.self.extent.field.m l.multiples.columns.start l.multiples.columns.end (at l.self.entries l.c) (at l.multiples.entries);
}
