-- `grown` takes a digit more: each way out by its lemma.
use native.Mathlib.Omega.{arith}
use Rattle.text.proofs.Numbers.{digit_known, grown_none, grown_high, grown_low}
use Rattle.text.proofs.number.grown.Goals as goal
use Rattle.text.proofs.number.grown.Goals.{then-top-digit-via-then-top-digit, then-top-digit-via-else-top-digit+then-top-digit-2}

pub overflow_sub-b : goal.overflow_sub-b
overflow_sub-b c = (digit_known c.args.b c.requires).0

pub returns : goal.returns
returns c = grown_low _ _ _ _ _ c.in_ok-v.was c.from-digit.ensures (omega (arith, c.if-top-digit-2.false))

pub returns-in_err-v : goal.returns-in_err-v
returns-in_err-v c = rw c.from_residual.ensures (grown_none _ _ _ c.in_err-v.was)

pub returns-then-top-digit : goal.returns-then-top-digit
returns-then-top-digit c =
    grown_high _ _ _ _ _ c.in_ok-v.was c.from-digit.ensures
    (elim c.then-top-digit.branch [
      | then-top-digit-via-then-top-digit w ↦ omega (arith, w.if-top-digit)
      | then-top-digit-via-else-top-digit+then-top-digit-2 w ↦ omega (arith, w.if-top-digit, w.if-top-digit-2)
    ])
