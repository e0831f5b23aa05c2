-- `solve::Table::eliminate` meets its contract.
use Prim.Native.Nat.{◌≤◌}
use mathlib.Core.Path.{◌≡◌}
use Rattle.solve.specs.Table.{at}
use Rattle.solve.specs.Step.{Alike, Stairs}
use Rattle.solve.proofs.Table.eliminate.Given as goal

abbrev pub invariant-loop-c : goal.invariant-loop-c
invariant-loop-c l = record {
  within : l.c ≤ l.self.extent.rows;
  same_extent : l.self.extent ≡ l.initial.self.extent;
  alike : Alike l.initial.self.extent.field.m l.initial.self.extent.rows l.initial.self.extent.cols (at l.initial.self.entries) (at l.self.entries);
  stairs : Stairs l.initial.self.extent.rows l.c (at l.self.entries);
}
