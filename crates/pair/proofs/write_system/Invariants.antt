-- `pair::write_system` meets its contract.
use Prim.Native.Nat.{ℕ, ◌*◌, ◌≤◌}
use mathlib.Core.Path.{◌≡◌}
use lib.ListN.{get_or}
use Rattle.code.specs.Checked.{points_of}
use Rattle.solve.specs.Table.{stride}
use Rattle.pair.specs.Fill.{System}
use Rattle.pair.proofs.write_system.Given as goal

abbrev pub invariant-loop-i : goal.invariant-loop-i
invariant-loop-i l = System l.field.m l.code.r l.sizes.s0 l.sizes.s1 l.i (points_of l.code) l.row l.t × ((k : ℕ) → l.i * l.code.r * stride ≤ k → get_or l.t k 0 ≡ 0)
