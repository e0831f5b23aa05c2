-- `check_numbers` meets its contract: each test that is passed leaves the checks behind it, and each that fails is its way out.
use mathlib.Core.Path.{◌≡◌, sym, ◌∙◌}
use Rattle.defs.specs.Limits.{numbers_verdict}
use Rattle.code.proofs.Numbers.{from_depth, from_points, from_dimension, not_width, width_passed, no_depth, too_deep, depth_passed, no_points, too_many, too_long, points_passed, no_dimension, too_large, all_passed}
use Rattle.code.proofs.check_numbers.Goals as goal
use Rattle.code.proofs.check_numbers.Goals.{In-Some, Else-r-gt-DEEPEST, Else-top-r, then-r-eq0-via-then-r-eq0, then-r-eq0-via-else-r-eq0+then-r-gt-DEEPEST, then-count-eq0-via-then-count-eq0, then-count-eq0-via-else-count-eq0+then-size-count, then-count-eq0-via-else-count-eq0+else-size-count+then-top-r, then-k-eq0-via-then-k-eq0, then-k-eq0-via-else-k-eq0+then-r-count}

-- m is a width
past_width : (c : In-Some) → numbers_verdict c.args.top c.args.m c.args.r c.args.k c.args.count ≡ from_depth c.args.top c.args.m c.args.r c.args.k c.args.count
past_width c = width_passed _ _ _ _ _ (sym c.of_width.ensures.exactly ∙ rw c.in-Some.is)

-- so is r a depth
past_depth : (c : Else-r-gt-DEEPEST) → numbers_verdict c.args.top c.args.m c.args.r c.args.k c.args.count ≡ from_points c.args.top c.args.m c.args.r c.args.k c.args.count
past_depth c = (past_width (goal.at.Else-r-gt-DEEPEST c).In-Some) ∙ depth_passed _ _ _ _ _ c.if-r-eq0.false c.if-r-gt-DEEPEST.false

-- nor than a row has room for
past_points : (c : Else-top-r) → numbers_verdict c.args.top c.args.m c.args.r c.args.k c.args.count ≡ from_dimension c.args.r c.args.k c.args.count
past_points c = past_depth (goal.at.Else-top-r c).Else-r-gt-DEEPEST
    ∙ points_passed _ _ _ _ _ c.if-count-eq0.false _ (rw c.in-Some.ensures.width at c.size.ensures) c.if-size-count.false c.if-top-r.false

pub returns : goal.returns
returns c = sym ((past_points (goal.at.returns c).Else-top-r) ∙ all_passed _ _ _ c.if-k-eq0.false c.if-r-count.false)

pub returns-in_default : goal.returns-in_default
returns-in_default c = sym (not_width _ _ _ _ _ (sym c.of_width.ensures.exactly ∙ rw c.in_default.is))

pub returns-then-r-eq0 : goal.returns-then-r-eq0
returns-then-r-eq0 c = sym ((past_width (goal.at.returns-then-r-eq0 c).In-Some)
    ∙ elim c.then-r-eq0.branch [
      | then-r-eq0-via-then-r-eq0 w ↦ no_depth _ _ _ _ _ w.if-r-eq0.true
      | then-r-eq0-via-else-r-eq0+then-r-gt-DEEPEST w ↦ too_deep _ _ _ _ _ w.if-r-eq0.false w.if-r-gt-DEEPEST.true
    ])

pub returns-then-count-eq0 : goal.returns-then-count-eq0
returns-then-count-eq0 c = sym ((past_depth (goal.at.returns-then-count-eq0 c).Else-r-gt-DEEPEST)
    ∙ elim c.then-count-eq0.branch [
      | then-count-eq0-via-then-count-eq0 w ↦ no_points _ _ _ _ _ w.if-count-eq0.true
      | then-count-eq0-via-else-count-eq0+then-size-count w ↦ too_many _ _ _ _ _ w.if-count-eq0.false _ (rw c.in-Some.ensures.width at w.size.ensures) w.if-size-count.true
      | then-count-eq0-via-else-count-eq0+else-size-count+then-top-r w ↦ too_long _ _ _ _ _ w.if-count-eq0.false _ (rw c.in-Some.ensures.width at w.size.ensures) w.if-size-count.false w.if-top-r.true
    ])

pub returns-then-k-eq0 : goal.returns-then-k-eq0
returns-then-k-eq0 c = sym ((past_points (goal.at.returns-then-k-eq0 c).Else-top-r)
    ∙ elim c.then-k-eq0.branch [
      | then-k-eq0-via-then-k-eq0 w ↦ no_dimension _ _ _ w.if-k-eq0.true
      | then-k-eq0-via-else-k-eq0+then-r-count w ↦ too_large _ _ _ w.if-k-eq0.false w.if-r-count.true
    ])
