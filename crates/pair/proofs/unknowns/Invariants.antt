-- `pair::unknowns` meets its contract.
use Prim.Native.Nat.{◌+◌}
use mathlib.Core.Path.{◌≡◌}
use Rattle.theory.specs.Fill.{filled}
use Rattle.solve.specs.Table.{at}
use Rattle.solve.specs.System.{free}
use Rattle.pair.proofs.unknowns.Given as goal

abbrev pub invariant-loop-a : goal.invariant-loop-a
invariant-loop-a l = l.coefficient-items ≡ filled l.initial.coefficient-items 0 (λ i. free (at l.t.entries) l.c (l.first + i)) l.a
