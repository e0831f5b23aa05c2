-- `first_twice` meets its contract: no symbol before i equals an earlier one, and seen marks those passed.
use Prim.Native.Nat.{ℕ, ◌<◌}
use mathlib.Core.Bool.{false}
use mathlib.Core.Path.{◌≡◌}
use Rattle.code.proofs.Search.{Seen, twice_at}
use Rattle.code.proofs.first_twice.Given as goal

abbrev pub invariant-loop-i : goal.invariant-loop-i
invariant-loop-i l = Seen l.points l.i l.seen × ((j : ℕ) → j < l.i → twice_at l.points j ≡ false)
