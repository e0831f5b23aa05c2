-- `first_high` meets its contract: it stops at a symbol outside the field, or has passed them all.
use native.Mathlib.Omega.{arith}
use borrow.Author.Count.{below_more}
use borrow.Author.Tests.{le-leb}
use Rattle.std.proofs.lemmas.Bool.{lt-leb}
use Rattle.code.proofs.Search.{high_found, high_none}
use Rattle.code.proofs.first_high.Goals as goal

pub loop-i-init : goal.loop-i-init
loop-i-init c = λ j l. absurd (omega arith)

pub loop-i-preserved : goal.loop-i-preserved
loop-i-preserved c = below_more _ _ c.loop-i.invariant (lt-leb _ _ (omega (arith, c.if-size-from.false, c.from.ensures, c.size-size.ensures)))

pub returns : goal.returns
returns c = high_none _ _ (λ j l. c.loop-i.invariant j (omega arith))

pub returns-then-size-from : goal.returns-then-size-from
returns-then-size-from c =
    high_found _ _ _ c.loop-i-test.true c.loop-i.invariant (le-leb _ _ (omega (arith, c.if-size-from.true, c.from.ensures, c.size-size.ensures)))
