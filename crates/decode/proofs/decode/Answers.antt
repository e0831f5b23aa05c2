-- `decode::decode` meets its contract: each way out by its lemma.
use mathlib.Core.Path.{◌≡◌, refl, sym, ◌∙◌}
use native.Mathlib.Omega.{arith}
use lib.ListN.{length}
use lib.Seq.{length-take-le}
use Rattle.std.proofs.Common.{rules, Err}
use Rattle.defs.specs.Refusal.{fine}
use Rattle.defs.specs.declared.Refusal.TheVariants.{TooFar}
use Rattle.pair.proofs.Outcome.{short}
use Rattle.decode.specs.Search.{rest_verdict, Nearby}
use Rattle.decode.proofs.Outcome.{message_top, rows_front, code_refused, rest_refused, room, is_row, nothing_near, decoded}
use Rattle.decode.proofs.decode.Goals as goal
use Rattle.decode.proofs.decode.Goals.{In_ok-check_rest, In_ok-sought}

-- where the lengths and the symbols have passed
passed : (c : In_ok-check_rest) → rest_verdict c.in_ok-code.code c.args.row.now (length c.args.message.now) (length c.args.depths.now) ≡ fine
passed c = sym c.in_ok-check_rest.ensures

pub returns-in_err-code : goal.returns-in_err-code
returns-in_err-code c =
    let e : c.from_residual.result ≡ Err c.in_err-code.field-0.0 = search rules in
    rw e (code_refused _ _ _ _ _ _ _ _ (sym c.in_err-code.ensures.verdict))

pub returns-in_err-check_rest : goal.returns-in_err-check_rest
returns-in_err-check_rest c =
    let e : c.from_residual-in_err-check_rest.result ≡ Err c.in_err-check_rest.field-0.0 = search rules in
    rw e (rest_refused _ _ _ _ c.in_ok-code.ensures.code _ (sym c.in_err-check_rest.ensures))

pub seek-requires : goal.seek-requires
seek-requires c = is_row _ _ _ _ (passed (goal.at.seek-requires c).In_ok-check_rest)

-- where a message is found
nearby : (c : In_ok-sought) → Nearby c.in_ok-code.code c.args.row.now c.in_ok-sought.sought
nearby c = rw c.in_ok-sought.ensures.ok_part at c.seek.ensures

pub returns-in_err-sought : goal.returns-in_err-sought
returns-in_err-sought c =
    let none = c.in_err-sought.ensures.ok_part in
    let e : c.from_residual-in_err-sought.result ≡ Err c.in_err-sought.field-0.0 = search rules in
    let why : c.in_err-sought.field-0.0 ≡ TooFar = let h = rw none at c.in_err-sought.ensures.value in cc in
    rw (e, why)
    (nothing_near _ _ _ _ c.in_ok-code.ensures.code (passed (goal.at.returns-in_err-sought c).In_ok-check_rest) (rw none at c.seek.ensures))

pub returns : goal.returns
returns c =
    rw c.copy_from_slice.ensures.after (decoded _ _ _ _ c.in_ok-code.ensures.code (passed (goal.at.returns c).In_ok-check_rest) _ (nearby (goal.at.returns c).In_ok-sought) _ _ c.write_depths.ensures)

pub copy_from_slice-requires : goal.copy_from_slice-requires
copy_from_slice-requires c =
    let long = (nearby (goal.at.copy_from_slice-requires c).In_ok-sought).long in
    (room _ _ _ _ (passed (goal.at.copy_from_slice-requires c).In_ok-check_rest)).0 ∙ sym (length-take-le _ _ (omega (arith, long, message_top c.in_ok-code.code)))

pub shared_ref_as_front-compared : goal.shared_ref_as_front-compared
shared_ref_as_front-compared c = short (is_row _ _ _ _ (passed (goal.at.shared_ref_as_front-compared c).In_ok-check_rest))

pub invariant_of-compared : goal.invariant_of-compared
invariant_of-compared c =
    let row = is_row _ _ _ _ (passed (goal.at.invariant_of-compared c).In_ok-check_rest) in
    record { chunks = rows_front c.in_ok-code.code _ _ _ refl row.size (nearby (goal.at.invariant_of-compared c).In_ok-sought).sent.long }

pub write_depths-requires : goal.write_depths-requires
write_depths-requires c = (room _ _ _ _ (passed (goal.at.write_depths-requires c).In_ok-check_rest)).1
