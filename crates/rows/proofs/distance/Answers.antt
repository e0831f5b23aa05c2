-- `distance` meets its contract: rows whose lengths have passed are measured.
use mathlib.Core.Path.{◌≡◌, refl, sym, ◌∙◌}
use lib.ListN.{length}
use Rattle.std.proofs.Common.{rules, Err}
use Rattle.defs.specs.Refusal.{fine, answer}
use Rattle.defs.specs.Encode.{distance_verdict, distance_answer}
use Rattle.rows.proofs.Outcome.{depth_pos, distance_rows}
use Rattle.rows.proofs.distance.Goals as goal
use Rattle.rows.proofs.distance.Goals.{In_ok-check_lengths}

-- the lengths have passed
passed : (c : In_ok-check_lengths) → distance_verdict c.args.r (length c.args.a.now) (length c.args.b.now) ≡ fine
passed c = sym c.check_lengths.ensures ∙ c.in_ok-check_lengths.was

pub returns-in_err-check_lengths : goal.returns-in_err-check_lengths
unfolding distance_answer answer
returns-in_err-check_lengths c =
    let e : c.from_residual.result ≡ Err c.in_err-check_lengths.field-0.0 = search rules in
    let f : distance_verdict c.args.r (length c.args.a.now) (length c.args.b.now) ≡ Err c.in_err-check_lengths.field-0.0 =
    sym c.check_lengths.ensures ∙ c.in_err-check_lengths.was in
    rw (e, f) refl

pub nonzero_div-count : goal.nonzero_div-count
nonzero_div-count c = depth_pos _ c.args.a.now c.args.b.now (passed (goal.at.nonzero_div-count c).In_ok-check_lengths)

pub invariant_of-rows : goal.invariant_of-rows
invariant_of-rows c = record { chunks = distance_rows _ _ _ (passed (goal.at.invariant_of-rows c).In_ok-check_lengths) }

pub returns : goal.returns
unfolding distance_answer answer
returns c = rw (passed (goal.at.returns c).In_ok-check_lengths, c.distance.ensures) refl
