-- `encode` meets its contract: each way out by its lemma.
use Prim.Native.Nat.{ℕ}
use mathlib.Core.Path.{◌≡◌, ap, sym, ◌∙◌}
use native.Mathlib.Omega.{arith}
use Rattle.std.proofs.Common.{rules, Err}
use Rattle.defs.specs.Limits.{Inside}
use Rattle.defs.specs.Encode.{symbols_verdict}
use Rattle.theory.proofs.Limits.{inside_known}
use Rattle.rows.proofs.Outcome.{encode_refused, encode_message, encode_row, encode_symbol, encode_done, writable, same_row}
use Rattle.rows.proofs.encode.Goals as goal
use Rattle.rows.proofs.encode.Goals.{In_ok-code, After-check_symbols, then-message-k-via-then-message-k, then-message-k-via-else-message-k+then-row-r}

-- the code has passed
inside : (c : In_ok-code) → Inside c.args.m c.args.r c.args.k c.args.points.now
inside c = sym c.in_ok-code.ensures.verdict

-- the symbols have been checked in its field
checked : (c : After-check_symbols) → c.check_symbols.result ≡ symbols_verdict c.args.m c.args.message.now
checked c = c.check_symbols.ensures ∙ ap (λ (n : ℕ). symbols_verdict n c.args.message.now) (c.field_of.ensures ∙ c.in_ok-code.ensures.code.m_is)

pub overflow_mul-r : goal.overflow_mul-r
overflow_mul-r c = omega (arith, (inside_known _ _ _ _ (inside (goal.at.overflow_mul-r c).In_ok-code)).numbers.row_top)

pub returns-in_err-code : goal.returns-in_err-code
returns-in_err-code c =
    let e : c.from_residual.result ≡ Err c.in_err-code.field-0.0 = search rules in
    rw e (encode_refused _ _ _ _ _ _ _ (sym c.in_err-code.ensures.verdict))

pub returns-then-message-k : goal.returns-then-message-k
returns-then-message-k c = let i = inside (goal.at.returns-then-message-k c).In_ok-code in
    elim c.then-message-k.branch [
      | then-message-k-via-then-message-k w ↦ encode_message _ _ _ _ _ _ i w.if-message-k.true
      | then-message-k-via-else-message-k+then-row-r w ↦ encode_row _ _ _ _ _ _ i w.if-message-k.false w.if-row-r.true
    ]

pub returns-in_err-check_symbols : goal.returns-in_err-check_symbols
returns-in_err-check_symbols c =
    let e : c.from_residual-in_err-check_symbols.result ≡ Err c.in_err-check_symbols.field-0.0 = search rules in
    rw e (encode_symbol _ _ _ _ _ _ (inside (goal.at.returns-in_err-check_symbols c).In_ok-code) c.if-message-k.false c.if-row-r.false _
    (sym (checked (goal.at.returns-in_err-check_symbols c).After-check_symbols) ∙ c.in_err-check_symbols.was))

pub write_row-requires : goal.write_row-requires
write_row-requires c =
    writable _ _ _ _ _ _ c.in_ok-code.ensures.code _ c.if-message-k.false c.if-row-r.false
    (sym (checked (goal.at.write_row-requires c).After-check_symbols) ∙ c.in_ok-check_symbols.was)

pub returns : goal.returns
returns c =
    encode_done _ _ _ _ _ _ (inside (goal.at.returns c).In_ok-code) c.if-message-k.false c.if-row-r.false
    (sym (checked (goal.at.returns c).After-check_symbols) ∙ c.in_ok-check_symbols.was) _ (c.write_row.ensures ∙ same_row _ _ _ _ _ _ c.in_ok-code.ensures.code)
