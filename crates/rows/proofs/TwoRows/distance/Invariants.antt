-- `distance` meets its contract: the damage of the first i chunks is added up.
use Prim.Native.Nat.{◌*◌, ◌≤◌}
use mathlib.Core.Path.{◌≡◌}
use Rattle.defs.specs.Limits.{deepest}
use Rattle.defs.specs.Distance.{distance}
use Rattle.rows.proofs.TwoRows.distance.Given as goal

abbrev pub invariant-loop-i : goal.invariant-loop-i
invariant-loop-i l = record {
  added : l.sum ≡ distance l.self.r l.i l.self.a.now l.self.b.now;
  fits : l.sum ≤ deepest * l.i;
}
