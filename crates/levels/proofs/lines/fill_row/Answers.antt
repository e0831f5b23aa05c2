-- `fill_row` meets its contract: the chunks of the lines before what is left stand in the row.
use Prim.Native.Nat.{◌<◌, ◌+◌, ◌-◌, ◌*◌}
use mathlib.Core.Path.{◌≡◌, refl}
use native.Mathlib.Omega.{arith}
use lib.ListN.{length, length-drop}
use lib.Seq.{take_all}
use Rattle.levels.proofs.Filling.{end_low, filling_more, filling_last}
use Rattle.levels.proofs.lines.fill_row.Goals as goal
use Rattle.levels.proofs.lines.fill_row.Goals.{After-read_number-n}

inside : (c : After-read_number-n) → c.read_number-n.result.end < length c.loop-i.rest.now
inside c = end_low _ _ _ _ _ _ c.loop-i.invariant c.args.scale.depth.0 (rw c.loop-i.auto.row c.loop-i-test.true) _ c.highest-top.ensures _ c.read_number-n.ensures

pub loop-i-preserved : goal.loop-i-preserved
loop-i-preserved c =
    filling_more _ _ _ _ _ _ c.loop-i.invariant c.args.scale.depth.0 (rw c.loop-i.auto.row c.loop-i-test.true) _ c.highest-top.ensures _ c.read_number-n.ensures
    _ c.put_chunk.new.chunk _ _ c.unwrap_or.ensures c.put_chunk.ensures
    (take_all _ _ (omega (arith, length-drop (c.read_number-n.result.end + 1) c.loop-i.rest.now)))
    (let e : c.loop-i.i * c.args.scale.r + c.args.scale.r - c.loop-i.i * c.args.scale.r ≡ c.args.scale.r = omega arith in rw e refl)

pub overflow_add-rest : goal.overflow_add-rest
overflow_add-rest c = omega (arith, inside (goal.at.overflow_add-rest c).After-read_number-n, c.loop-i.invariant.within)

pub slice_bounds-rest-count : goal.slice_bounds-rest-count
slice_bounds-rest-count c = omega (arith, inside (goal.at.slice_bounds-rest-count c).After-read_number-n)

pub slice_bounds-rest-start : goal.slice_bounds-rest-start
slice_bounds-rest-start c = omega (arith, inside (goal.at.slice_bounds-rest-start c).After-read_number-n)

pub returns : goal.returns
returns c = filling_last _ _ _ _ _ _ c.loop-i.invariant c.args.scale.depth.0 (rw c.loop-i.auto.row (omega arith))
