-- `levels_read` meets its contract: each way out by its lemma.
use Prim.Native.Nat.{◌/◌, ◌^◌}
use mathlib.Core.Path.{◌≡◌, sym, ◌∙◌}
use lib.ListN.{length}
use Rattle.std.proofs.Common.{rules, Err}
use Rattle.defs.specs.Refusal.{fine}
use Rattle.defs.specs.Levels.{shape_verdict}
use Rattle.levels.specs.Lines.{text_checks}
use Rattle.levels.proofs.Outcome.{read_shape, read_lines, fillable, read_done}
use Rattle.levels.proofs.levels_read.Goals as goal
use Rattle.levels.proofs.levels_read.Goals.{In_ok-scale, In_ok-check_lines}

-- where the shape has passed
shape : (c : In_ok-scale) → shape_verdict c.args.m c.args.r (length c.args.row.now) ≡ fine
shape c = sym c.in_ok-scale.ensures.verdict

-- where the lines have passed
good : (c : In_ok-check_lines) → text_checks ((2 ^ c.args.m) ^ c.args.r) c.args.text.now (length c.args.row.now / c.args.r) ≡ fine
good c = rw (← c.in_ok-scale.ensures.scale.0, ← c.in_ok-scale.ensures.scale.1) (sym c.check_lines.ensures ∙ c.in_ok-check_lines.was)

pub fill_row-requires : goal.fill_row-requires
fill_row-requires c =
    rw (c.in_ok-scale.ensures.scale.0, c.in_ok-scale.ensures.scale.1)
    (fillable _ _ _ _ (shape (goal.at.fill_row-requires c).In_ok-scale) (good (goal.at.fill_row-requires c).In_ok-check_lines))

pub returns : goal.returns
returns c =
    read_done _ _ _ _ (shape (goal.at.returns c).In_ok-scale) (good (goal.at.returns c).In_ok-check_lines) _
    (rw (← c.in_ok-scale.ensures.scale.0, ← c.in_ok-scale.ensures.scale.1) c.fill_row.ensures)

pub returns-in_err-scale : goal.returns-in_err-scale
returns-in_err-scale c =
    let e : c.from_residual.result ≡ Err c.in_err-scale.field-0.0 = search rules in
    rw e (read_shape _ _ _ _ _ (sym c.in_err-scale.ensures.verdict))

pub returns-in_err-check_lines : goal.returns-in_err-check_lines
returns-in_err-check_lines c =
    let e : c.from_residual-in_err-check_lines.result ≡ Err c.in_err-check_lines.field-0.0 = search rules in
    rw e
    (read_lines _ _ _ _ (shape (goal.at.returns-in_err-check_lines c).In_ok-scale) _
    (rw (← c.in_ok-scale.ensures.scale.0, ← c.in_ok-scale.ensures.scale.1) (sym c.check_lines.ensures ∙ c.in_err-check_lines.was)))
