-- `highest` meets its contract: after so many turns top is the highest level of so many symbols.
use Prim.Native.Nat.{◌+◌, ◌*◌, ◌-◌, ◌^◌, ◌<◌}
use native.Mathlib.Omega.{arith}
use Rattle.levels.proofs.Words.{base_of, highest_fits}
use Rattle.levels.proofs.level.Scale.highest.Goals as goal
use Rattle.levels.proofs.level.Scale.highest.Goals.{In-loop}

fits : (c : In-loop) → c.loop.top * c.size-q.result + (c.size-q.result - 1) < 2 ^ 64
fits c = highest_fits _ _ (base_of _ _ _ c.args.self.field.known c.args.self.depth c.size-q.ensures) _ _ c.loop.invariant c.loop-test.true

pub overflow_mul-top : goal.overflow_mul-top
overflow_mul-top c = omega (arith, fits c)

pub overflow_add-top : goal.overflow_add-top
overflow_add-top c = omega (arith, fits c)
