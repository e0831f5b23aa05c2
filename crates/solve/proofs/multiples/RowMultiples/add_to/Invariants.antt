-- `solve::multiples::RowMultiples::add_to` meets its contract.
use Prim.Native.Nat.{◌+◌, ◌*◌}
use mathlib.Core.Path.{◌≡◌}
use Rattle.solve.specs.Table.{stride}
use Rattle.solve.proofs.Writes.{Adds}
use Rattle.solve.proofs.multiples.RowMultiples.add_to.Given as goal

abbrev pub invariant-loop-j : goal.invariant-loop-j
invariant-loop-j l = record {
  same_extent : l.table.extent ≡ l.initial.table.extent;
  adds : Adds l.initial.table.extent.field.m l.f (λ i. l.r * stride + i) (λ i. l.p * stride + i) l.initial.table.entries l.self.columns.start l.j l.table.entries;
}
