-- `first_twice` meets its contract: it stops at a symbol that is marked, or has passed them all.
use Prim.Native.Nat.{◌<◌}
use native.Mathlib.Omega.{arith}
use lib.ListN.{get_or}
use borrow.Author.Count.{below_more}
use Rattle.code.proofs.Search.{seen_first, seen_more, twice_here, once_here, twice_found, twice_none}
use Rattle.code.proofs.first_twice.Goals as goal

pub loop-i-init : goal.loop-i-init
loop-i-init c = (seen_first _, λ j l. absurd (omega arith))

pub loop-i-preserved : goal.loop-i-preserved
loop-i-preserved c = let at = c.loop-i in
    let low : get_or c.args.points.now at.i 0 < 256 = omega (arith, c.type_inv.points at.i) in
    rw c.from-in-loop-i.ensures (
      seen_more _ _ _ at.invariant.0 low,
      below_more _ _ at.invariant.1 (once_here _ _ _ at.invariant.0 low (rw c.from.ensures at c.if-seen-from.false)),
    )

pub returns : goal.returns
returns c = twice_none c.args.points.now (λ j l. c.loop-i.invariant.1 j (omega arith))

pub returns-then-seen-from : goal.returns-then-seen-from
returns-then-seen-from c =
    let low : get_or c.args.points.now c.loop-i.i 0 < 256 = omega (arith, c.type_inv.points c.loop-i.i) in
    twice_found c.args.points.now _ c.loop-i-test.true c.loop-i.invariant.1 (twice_here _ _ _ c.loop-i.invariant.0 low (rw c.from.ensures at c.if-seen-from.true))
