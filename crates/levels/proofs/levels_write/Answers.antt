-- `levels_write` meets its contract: each way out by its lemma.
use mathlib.Core.Path.{◌≡◌, sym, ◌∙◌}
use lib.ListN.{length}
use Rattle.std.proofs.Common.{rules, Err}
use Rattle.defs.specs.Refusal.{fine}
use Rattle.defs.specs.Encode.{symbols_verdict}
use Rattle.defs.specs.Levels.{shape_verdict, row_text}
use Rattle.levels.proofs.Outcome.{write_shape, write_symbol, leveled, write_done}
use Rattle.levels.proofs.levels_write.Goals as goal
use Rattle.levels.proofs.levels_write.Goals.{In_ok-scale, In_ok-check_symbols}

-- where the shape has passed
shape : (c : In_ok-scale) → shape_verdict c.args.m c.args.r (length c.args.row.now) ≡ fine
shape c = sym c.in_ok-scale.ensures.verdict

-- so have the symbols
symbols : (c : In_ok-check_symbols) → symbols_verdict c.args.m c.args.row.now ≡ fine
symbols c = rw (← c.in_ok-scale.ensures.scale.0) (sym c.check_symbols.ensures ∙ c.in_ok-check_symbols.was)

pub text_of-requires : goal.text_of-requires
text_of-requires c = rw (c.in_ok-scale.ensures.scale.0, c.in_ok-scale.ensures.scale.1) (leveled _ _ _ (shape (goal.at.text_of-requires c).In_ok-scale) (symbols (goal.at.text_of-requires c).In_ok-check_symbols))

pub returns : goal.returns
unfolding row_text
returns c =
    write_done _ _ _ _ (shape (goal.at.returns c).In_ok-scale) (symbols (goal.at.returns c).In_ok-check_symbols) _ _
    (rw (← c.in_ok-scale.ensures.scale.0, ← c.in_ok-scale.ensures.scale.1, ← c.text_of.ensures) c.hand_out.ensures)

pub returns-in_err-scale : goal.returns-in_err-scale
returns-in_err-scale c =
    let e : c.from_residual.result ≡ Err c.in_err-scale.field-0.0 = search rules in
    rw e (write_shape _ _ c.args.row.now _ _ (sym c.in_err-scale.ensures.verdict))

pub returns-in_err-check_symbols : goal.returns-in_err-check_symbols
returns-in_err-check_symbols c =
    let e : c.from_residual-in_err-check_symbols.result ≡ Err c.in_err-check_symbols.field-0.0 = search rules in
    rw e
    (write_symbol _ _ c.args.row.now _ (shape (goal.at.returns-in_err-check_symbols c).In_ok-scale) _
    (rw (← c.in_ok-scale.ensures.scale.0) (sym c.check_symbols.ensures ∙ c.in_err-check_symbols.was)))
