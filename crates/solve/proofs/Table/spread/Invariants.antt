-- `solve::Table::spread` meets its contract.
use Prim.Native.Nat.{◌+◌, ◌*◌}
use mathlib.Core.Path.{◌≡◌}
use Rattle.solve.specs.Table.{stride, at}
use Rattle.solve.proofs.Writes.{Adds}
use Rattle.solve.proofs.Table.spread.Given as goal

abbrev pub invariant-loop-i : goal.invariant-loop-i
invariant-loop-i l = record {
  same_extent : l.self.extent ≡ l.initial.self.extent;
  adds : Adds l.initial.self.extent.field.m (at l.initial.self.entries l.k l.c) (λ j. j * stride + l.c) (λ j. j * stride + l.k) l.initial.self.entries 0 l.i l.self.entries;
}
