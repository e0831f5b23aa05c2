-- `check_code` meets its contract: each way out by its lemma.
use mathlib.Core.Path.{◌≡◌, refl, sym, ◌∙◌}
use Prim.Native.Nat.{◌≤◌}
use native.Mathlib.Omega.{arith}
use lib.ListN.{length}
use Rattle.std.proofs.Common.{rules, Err}
use Rattle.defs.specs.Refusal.{fine, and_then}
use Rattle.defs.specs.Limits.{longest, numbers_verdict, code_verdict}
use Rattle.theory.proofs.Limits.{numbers_known, count_small}
use Rattle.code.proofs.Outcome.{length_padded, take_padded, high_refused, twice_refused, code_fine}
use Rattle.code.proofs.check_code.Goals as goal
use Rattle.code.proofs.check_code.Goals.{In_ok-check_numbers, In_default-first_twice}

-- the numbers have passed
numbers : (c : In_ok-check_numbers) → numbers_verdict longest c.args.m c.args.r c.args.k (length c.args.points.now) ≡ fine
numbers c = sym c.check_numbers.ensures ∙ c.in_ok-check_numbers.was

-- so there are few points
few : (c : In_ok-check_numbers) → length c.args.points.now ≤ longest
few c = count_small (numbers_known longest _ _ _ _ (omega arith) (numbers c))

-- the symbols have passed too, and no point is repeated
all_fine : (c : In_default-first_twice) → code_verdict longest c.args.m c.args.r c.args.k c.args.points.now ≡ fine
all_fine c =
    sym (code_fine _ _ _ _ (numbers (goal.at.In_default-first_twice c).In_ok-check_numbers) (sym c.first_high.ensures ∙ c.in_default.is)
    (sym c.first_twice.ensures ∙ c.in_default-first_twice.is))

pub returns-in_err-check_numbers-clause-verdict : goal.returns-in_err-check_numbers-clause-verdict
unfolding code_verdict and_then
returns-in_err-check_numbers-clause-verdict c =
    let e : c.from_residual.result ≡ Err c.in_err-check_numbers.field-0.0 = search rules in
    let f : numbers_verdict longest c.args.m c.args.r c.args.k (length c.args.points.now) ≡ Err c.in_err-check_numbers.field-0.0 =
    sym c.check_numbers.ensures ∙ c.in_err-check_numbers.was in
    rw (e, f) refl

pub invariant_of-first_high : goal.invariant_of-first_high
invariant_of-first_high c = record { known = (numbers_known longest _ _ _ _ (omega arith) (numbers (goal.at.invariant_of-first_high c).In_ok-check_numbers)).width }

pub returns-in-Some-clause-verdict : goal.returns-in-Some-clause-verdict
returns-in-Some-clause-verdict c =
    high_refused _ _ _ _ (numbers (goal.at.returns-in-Some-clause-verdict c).In_ok-check_numbers) _ (sym c.first_high.ensures ∙ c.in-Some.is)

pub returns-in-Some-first_twice-clause-verdict : goal.returns-in-Some-first_twice-clause-verdict
returns-in-Some-first_twice-clause-verdict c =
    twice_refused _ _ _ _ (numbers (goal.at.returns-in-Some-first_twice-clause-verdict c).In_ok-check_numbers) (sym c.first_high.ensures ∙ c.in_default.is) _
    (sym c.first_twice.ensures ∙ c.in-Some-first_twice.is)

pub pad-requires : goal.pad-requires
pad-requires c = few (goal.at.pad-requires c).In_ok-check_numbers

pub invariant_of-result : goal.invariant_of-result
invariant_of-result c = let h = few (goal.at.invariant_of-result c).In_ok-check_numbers in
    record {
      room = rw c.pad.ensures (length_padded c.args.points.now h);
      counted = h;
      inside = rw (c.pad.ensures, take_padded c.args.points.now) (all_fine (goal.at.invariant_of-result c).In_default-first_twice);
    }

pub returns-clause-verdict : goal.returns-clause-verdict
returns-clause-verdict c = sym (all_fine (goal.at.returns-clause-verdict c).In_default-first_twice)
