-- `level_of` meets its contract: v is the level of the symbols before an index.
use Prim.Native.Nat.{◌+◌, ◌*◌, ◌^◌, ◌<◌}
use mathlib.Core.Path.{sym}
use native.Mathlib.Omega.{arith}
use lib.ListN.{get_or}
use Rattle.levels.proofs.Horner.{level_none}
use Rattle.levels.proofs.Words.{base_of, level_grows, level_fits}
use Rattle.levels.proofs.level.Scale.level_of.Goals as goal
use Rattle.levels.proofs.level.Scale.level_of.Goals.{In-loop-symbol}

fits : (c : In-loop-symbol) → c.loop-symbol.v * c.size-q.result + get_or c.args.chunk.now c.loop-symbol.symbol-index 0 < 2 ^ 64
fits c =
    level_fits _ _ (base_of _ _ _ c.args.self.field.known c.args.self.depth c.size-q.ensures) c.args.chunk.now
    (λ i. rw c.size-q.ensures (c.requires.symbols i)) _ _ c.loop-symbol.invariant (omega (arith, c.requires.size, c.loop-symbol-test.true))

pub loop-symbol-init : goal.loop-symbol-init
loop-symbol-init c = sym (level_none _ _)

pub loop-symbol-preserved : goal.loop-symbol-preserved
loop-symbol-preserved c =
    rw c.from.ensures (level_grows _ _ (base_of _ _ _ c.args.self.field.known c.args.self.depth c.size-q.ensures) c.args.chunk.now
    (λ i. rw c.size-q.ensures (c.requires.symbols i)) _ _ c.loop-symbol.invariant (omega (arith, c.requires.size, c.loop-symbol-test.true)))

pub overflow_mul-v : goal.overflow_mul-v
overflow_mul-v c = omega (arith, fits (goal.at.overflow_mul-v c).In-loop-symbol)

pub overflow_add-v : goal.overflow_add-v
overflow_add-v c = omega (arith, fits (goal.at.overflow_add-v c).In-loop-symbol, c.from.ensures)
