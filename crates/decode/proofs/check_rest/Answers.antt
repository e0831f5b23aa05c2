-- `decode::check_rest` meets its contract: each test is one of the verdict's.
use mathlib.Core.Path.{sym, ◌∙◌}
use native.Mathlib.Omega.{arith}
use Rattle.code.proofs.Outcome.{is_code}
use Rattle.code.proofs.Known.{code_numbers}
use Rattle.decode.proofs.Outcome.{rest_row, rest_message, rest_depths, rest_symbols}
use Rattle.decode.proofs.check_rest.Goals as goal
use Rattle.decode.proofs.check_rest.Goals.{then-row-code-via-then-row-code, then-row-code-via-else-row-code+then-size-code, then-row-code-via-else-row-code+else-size-code+then-deep-code}

pub overflow_mul-code : goal.overflow_mul-code
overflow_mul-code c = omega (arith, (code_numbers (is_code c.args.code.now)).row_top)

pub returns-then-row-code : goal.returns-then-row-code
returns-then-row-code c = sym (elim c.then-row-code.branch [
  | then-row-code-via-then-row-code w ↦ rest_row _ _ _ _ w.if-row-code.true
  | then-row-code-via-else-row-code+then-size-code w ↦ rest_message _ _ _ _ w.if-row-code.false w.if-size-code.true
  | then-row-code-via-else-row-code+else-size-code+then-deep-code w ↦ rest_depths _ _ _ _ w.if-row-code.false w.if-size-code.false w.if-deep-code.true
])

pub returns : goal.returns
returns c =
    c.check_symbols.ensures ∙ rw c.field_of.ensures (sym (rest_symbols c.args.code.now c.args.row.now _ _ c.if-row-code.false c.if-size-code.false c.if-deep-code.false))
