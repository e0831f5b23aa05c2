-- `highest` meets its contract: after so many turns top is the highest level of so many symbols.
use Prim.Native.Nat.{◌+◌, ◌^◌}
use mathlib.Core.Path.{◌≡◌}
use Rattle.levels.proofs.level.Scale.highest.Given as goal

abbrev pub invariant-loop : goal.invariant-loop
invariant-loop l = l.top + 1 ≡ l.q ^ l.counter
