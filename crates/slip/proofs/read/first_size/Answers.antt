-- `slip::read::first_size` meets its contract: the size of what was opened.
use Rattle.std.proofs.Common.{rules, ◌≡◌, Err}
use Rattle.defs.specs.Refusal.{answer}
use Rattle.slip.proofs.read.first_size.Goals as goal

pub returns-in_err-open : goal.returns-in_err-open
unfolding answer
returns-in_err-open c =
    let e : c.from_residual.result ≡ Err c.in_err-open.field-0.0 = search rules in
    rw (e, ← c.in_err-open.ensures.verdict)

pub returns : goal.returns
unfolding answer
returns c = rw (← c.in_ok-open.ensures.verdict, c.in_ok-open.field-0.sized, c.in_ok-open.ensures.reader)
