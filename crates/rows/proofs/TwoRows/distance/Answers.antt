-- `distance` meets its contract: the damage of the first i chunks is added up.
use native.Mathlib.Omega.{arith}
use Rattle.rows.proofs.Measure.{damage_top, distance_none, distance_more}
use Rattle.rows.proofs.TwoRows.distance.Goals as goal

pub loop-i-init : goal.loop-i-init
loop-i-init c = record { added = distance_none _ _ _; fits = omega arith }

pub loop-i-preserved : goal.loop-i-preserved
loop-i-preserved c = record {
  added = distance_more _ c.args.self.now.a.now c.args.self.now.b.now _ _ _ c.loop-i.invariant.added c.damage-sum.ensures;
  fits = omega (arith, c.args.self.now.chunks.depth, c.loop-i.invariant.fits, damage_top _ _ _ _ _ c.damage-sum.ensures);
}

pub overflow_add-sum : goal.overflow_add-sum
overflow_add-sum c = omega (arith, c.args.self.now.chunks.depth, c.args.self.now.chunks.few, c.loop-i.invariant.fits, damage_top _ _ _ _ _ c.damage-sum.ensures)
