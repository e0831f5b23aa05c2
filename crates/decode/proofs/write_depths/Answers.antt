-- `decode::write_depths` meets its contract: the depths of the first i chunks are written and added up.
use Prim.Native.Nat.{◌≤◌}
use native.Mathlib.Omega.{arith}
use Rattle.defs.specs.Limits.{deepest}
use Rattle.theory.proofs.Fill.{filled_none, filled_next}
use Rattle.rows.proofs.Measure.{damage_top, distance_none, distance_more}
use Rattle.decode.proofs.Outcome.{measured}
use Rattle.decode.proofs.write_depths.Goals as goal
use Rattle.decode.proofs.write_depths.Goals.{After-damage-d}

-- where a chunk's damage is known
shallow : (c : After-damage-d) → c.damage-d.result ≤ deepest
shallow c = omega (arith, c.args.rows.now.chunks.depth, damage_top _ _ _ _ _ c.damage-d.ensures)

pub loop-i-init : goal.loop-i-init
loop-i-init c = (filled_none _ 0 _, distance_none _ _ _, omega arith)

pub loop-i-preserved : goal.loop-i-preserved
loop-i-preserved c =
    let inv = c.loop-i.invariant in (
      rw (inv.0, c.damage-d.ensures) (filled_next _ _ c.loop-i.i (omega arith)),
      distance_more _ _ _ _ _ _ inv.1 c.damage-d.ensures,
      omega (arith, inv.2, (shallow (goal.at.loop-i-preserved c).After-damage-d)),
    )

pub overflow_add-total : goal.overflow_add-total
overflow_add-total c = omega (arith, c.args.rows.now.chunks.few, c.requires, c.loop-i.invariant, (shallow (goal.at.overflow_add-total c).After-damage-d))

pub overflow_cast-depth : goal.overflow_cast-depth
overflow_cast-depth c = omega (arith, (shallow (goal.at.overflow_cast-depth c).After-damage-d))

pub returns : goal.returns
returns c = measured _ _ _ _ _ (omega arith) c.requires c.loop-i.invariant.0 _ c.loop-i.invariant.1
