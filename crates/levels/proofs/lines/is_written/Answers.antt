-- `is_written` meets its contract: each way out by its lemma.
use mathlib.Core.Path.{sym}
use native.Mathlib.Omega.{arith}
use borrow.Author.Tests.{ne_eqb}
use Rattle.defs.specs.Text.{digit_count}
use Rattle.levels.proofs.FirstLine.{count_within, newline_within, no_digits, no_newline, no_zero, zero_first}
use Rattle.levels.proofs.lines.is_written.Goals as goal
use Rattle.levels.proofs.lines.is_written.Goals.{
  then-end-eq0-via-then-end-eq0,
  then-end-eq0-via-else-end-eq0+then-end-text,
  then-end-eq0-via-else-end-eq0+else-end-text+then-text-end-ne10,
}

pub bounds-text-end : goal.bounds-text-end
bounds-text-end c = omega (arith, c.requires, count_within c.args.text.now)

pub returns-then-end-eq0 : goal.returns-then-end-eq0
returns-then-end-eq0 c = sym (elim c.then-end-eq0.branch [
  | then-end-eq0-via-then-end-eq0 w ↦ no_digits _ (omega (arith, c.requires))
  | then-end-eq0-via-else-end-eq0+then-end-text w ↦ no_newline c.args.text.now (λ e. omega (arith, c.requires, newline_within c.args.text.now (digit_count c.args.text.now) e))
  | then-end-eq0-via-else-end-eq0+else-end-text+then-text-end-ne10 w ↦ no_newline _ (rw c.requires at w.if-text-end-ne10.true)
])

pub returns-then-text-ne48 : goal.returns-then-text-ne48
returns-then-text-ne48 c = rw (ne_eqb _ _ c.if-text-ne48.true) (sym (no_zero _ (omega (arith, c.requires)) (rw c.requires at c.if-text-end-ne10.false) c.if-text-ne48.true))

pub returns-else-text-ne48 : goal.returns-else-text-ne48
returns-else-text-ne48 c = rw c.requires (sym (zero_first _ (omega (arith, c.requires)) (rw c.requires at c.if-text-end-ne10.false) c.if-text-ne48.false))
