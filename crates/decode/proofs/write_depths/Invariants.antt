-- `decode::write_depths` meets its contract: the depths of the first i chunks are written and added up.
use Prim.Native.Nat.{◌*◌, ◌≤◌}
use mathlib.Core.Path.{◌≡◌}
use Rattle.defs.specs.Distance.{damage, distance}
use Rattle.defs.specs.Limits.{deepest}
use Rattle.theory.specs.Fill.{filled}
use Rattle.decode.proofs.write_depths.Given as goal

abbrev pub invariant-loop-i : goal.invariant-loop-i
invariant-loop-i l =
    (l.depths ≡ filled l.initial.depths 0 (damage l.rows.r l.rows.a.now l.rows.b.now) l.i) × (l.total ≡ distance l.rows.r l.i l.rows.a.now l.rows.b.now) × (l.total ≤ deepest * l.i)
