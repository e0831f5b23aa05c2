-- `check_shape` meets its contract: 1, or what the check of the lengths finds.
use mathlib.Core.Path.{◌≡◌, sym, ◌∙◌, ap}
use Rattle.std.proofs.Common.{rules, Err}
use Rattle.std.specs.Option.{is_some}
use Rattle.defs.specs.Refusal.{fine}
use Rattle.defs.specs.Encode.{distance_verdict}
use Rattle.defs.specs.Levels.{shape_verdict}
use Rattle.levels.proofs.Shape.{shape_known, shape_field, shape_rest}
use Rattle.levels.proofs.check_shape.Goals as goal
use Rattle.levels.proofs.check_shape.Goals.{In-Some, In_ok-check_lengths}

-- where there is a field
rest : (c : In-Some) → shape_verdict c.args.m c.args.r c.args.n ≡ distance_verdict c.args.r c.args.n c.args.n
rest c = shape_rest _ _ _ (sym c.of_width.ensures.exactly ∙ ap is_some c.in-Some.is)

-- and the lengths have passed
passed : (c : In_ok-check_lengths) → shape_verdict c.args.m c.args.r c.args.n ≡ fine
passed c = rest (goal.at.In_ok-check_lengths c).In-Some ∙ sym c.check_lengths.ensures ∙ c.in_ok-check_lengths.was

pub invariant_of-result : goal.invariant_of-result
invariant_of-result c = let s = shape_known _ _ _ (passed c) in record { depth = (s.r_pos, s.r_top) }

pub returns-clause-verdict : goal.returns-clause-verdict
returns-clause-verdict c = sym (passed (goal.at.returns-clause-verdict c).In_ok-check_lengths)

pub returns-in_default-clause-verdict : goal.returns-in_default-clause-verdict
returns-in_default-clause-verdict c = sym (shape_field _ _ _ (sym c.of_width.ensures.exactly ∙ ap is_some c.in_default.is))

pub returns-in_err-check_lengths-clause-verdict : goal.returns-in_err-check_lengths-clause-verdict
returns-in_err-check_lengths-clause-verdict c =
    let e : c.from_residual.result ≡ Err c.in_err-check_lengths.field-0.0 = search rules in
    rw e (sym (rest (goal.at.returns-in_err-check_lengths-clause-verdict c).In-Some ∙ sym c.check_lengths.ensures ∙ c.in_err-check_lengths.was))
