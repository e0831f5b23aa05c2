-- `solve::Table::add_row` meets its contract.
use Prim.Native.Nat.{◌+◌, ◌*◌}
use mathlib.Core.Path.{◌≡◌}
use Rattle.solve.specs.Table.{stride}
use Rattle.solve.proofs.Writes.{Adds}
use Rattle.solve.proofs.Table.add_row.Given as goal

abbrev pub invariant-loop-j : goal.invariant-loop-j
invariant-loop-j l = record {
  same_extent : l.self.extent ≡ l.initial.self.extent;
  adds : Adds l.initial.self.extent.field.m l.f (λ i. l.r * stride + i) (λ i. l.p * stride + i) l.initial.self.entries l.c l.j l.self.entries;
}
