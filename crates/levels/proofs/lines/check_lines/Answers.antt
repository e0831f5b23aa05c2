-- `check_lines` meets its contract: the lines before what is left have passed.
use Prim.Native.Nat.{◌<◌}
use mathlib.Core.Path.{◌≡◌, sym, ap}
use native.Mathlib.Omega.{arith}
use lib.ListN.{length}
use Rattle.std.proofs.Common.{rules, Err}
use Rattle.std.proofs.lemmas.Grind.{common_steps}
use Rattle.levels.proofs.FirstLine.{behind_short}
use Rattle.levels.proofs.Checking.{reached_bad, reached_more, reached_miscounted, reached_last}
use Rattle.levels.proofs.lines.check_lines.Goals as goal
use Rattle.levels.proofs.lines.check_lines.Goals.{In-loop-rest}

some : (c : In-loop-rest) → 0 < length c.loop-rest.rest.now
some c = grind (arith, common_steps)

pub loop-rest-preserved : goal.loop-rest-preserved
loop-rest-preserved c =
    reached_more _ _ _ _ c.loop-rest.invariant (some (goal.at.loop-rest-preserved c).In-loop-rest) _ (sym c.in_ok-rest.ensures.verdict) c.in_ok-rest.ensures.behind

pub loop-rest-smaller : goal.loop-rest-smaller
loop-rest-smaller c =
    omega (arith, ap length c.in_ok-rest.ensures.behind, behind_short c.loop-rest.rest.now (some (goal.at.loop-rest-smaller c).In-loop-rest))

pub returns : goal.returns
returns c = rw (← c.highest-top.ensures) (reached_last _ _ _ _ c.loop-rest.invariant (grind (arith, common_steps)) _ c.if-line-count.false)

pub returns-in_err-rest : goal.returns-in_err-rest
returns-in_err-rest c =
    let e : c.from_residual.result ≡ Err c.in_err-rest.field-0.0 = search rules in
    rw (e, ← c.highest-top.ensures)
    (reached_bad _ _ _ _ c.loop-rest.invariant (some (goal.at.returns-in_err-rest c).In-loop-rest) _ _ (sym c.in_err-rest.ensures.verdict))

pub returns-then-line-count : goal.returns-then-line-count
returns-then-line-count c = rw (← c.highest-top.ensures) (reached_miscounted _ _ _ _ c.loop-rest.invariant (grind (arith, common_steps)) _ c.if-line-count.true)
