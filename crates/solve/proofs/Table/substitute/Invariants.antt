-- `solve::Table::substitute` meets its contract.
use mathlib.Core.Path.{◌≡◌}
use Rattle.solve.specs.Table.{at}
use Rattle.solve.proofs.Unknowns.{Backing}
use Rattle.solve.proofs.Table.substitute.Given as goal

abbrev pub invariant-loop-k : goal.invariant-loop-k
invariant-loop-k l = record {
  same_extent : l.self.extent ≡ l.initial.self.extent;
  backing : Backing l.initial.self.extent.field.m l.c l.k (at l.initial.self.entries) (at l.self.entries);
}
