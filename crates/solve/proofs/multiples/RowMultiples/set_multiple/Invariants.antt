-- `solve::multiples::RowMultiples::set_multiple` meets its contract.
use Prim.Native.Nat.{◌+◌, ◌*◌}
use mathlib.Core.Path.{◌≡◌}
use Rattle.defs.specs.Field.{add, times2}
use Rattle.solve.specs.Table.{stride, at}
use Rattle.solve.proofs.Writes.{Wrote}
use Rattle.solve.proofs.multiples.RowMultiples.set_multiple.Given as goal

abbrev pub invariant-loop-j : goal.invariant-loop-j
invariant-loop-j l = record {
  same_columns : l.self.columns ≡ l.initial.self.columns;
  wrote : Wrote (λ i. l.x * stride + i) (λ i. add (times2 l.initial.self.columns.field.m (at l.initial.self.entries l.half i)) (at l.initial.self.entries l.one i))
      l.initial.self.entries l.initial.self.columns.start l.j l.self.entries;
}
