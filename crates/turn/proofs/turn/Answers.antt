-- `turn` meets its contract: each way out by its lemma.
use Rattle.std.proofs.Common.{rules, ◌*◌, ◌≤◌, ◌≡◌, length, length-take-le, refl, sym, ◌∙◌, arith, Err}
use lib.Dec.{eqb}
use Rattle.defs.specs.Read.{first_verdict_of, first_verdict}
use Rattle.slip.specs.Edition.{number}
use Rattle.slip.proofs.Layouts.{known_edition}
use Rattle.turn.proofs.Turning.{own_first, refused_edition, turned_refused, turned_no, row_small, points_lent, row_lent, turned_long, turned_written}
use Rattle.turn.proofs.turn.Goals as goal
use Rattle.turn.proofs.turn.Goals.{In_ok-check_edition, In_ok-found}

-- where the edition is the right one
own : (c : In_ok-check_edition) → first_verdict_of (eqb (number c.args.from)) c.args.slip.now ≡ first_verdict c.args.slip.now
own c = own_first _ _ (known_edition c.args.from) (sym c.check_edition.ensures ∙ c.in_ok-check_edition.was)

-- where the slip was read
lends_points : (c : In_ok-found) → c.in_ok-found.found.count ≤ length c.slip_read.new.points
lends_points c = points_lent refl refl c.slip_read.ensures c.in_ok-found.was

lends_row : (c : In_ok-found) → c.in_ok-found.found.r * c.in_ok-found.found.count ≤ length c.slip_read.new.row
lends_row c = row_lent refl refl c.slip_read.ensures c.in_ok-found.was

pub returns-in_err-check_edition : goal.returns-in_err-check_edition
returns-in_err-check_edition c =
    let e : c.from_residual.result ≡ Err c.in_err-check_edition.field-0.0 = search rules in
    rw e (turned_refused _ _ _ _ _ (refused_edition _ _ _ _ _ (sym c.check_edition.ensures ∙ c.in_err-check_edition.was)))

pub returns-in_err-found : goal.returns-in_err-found
returns-in_err-found c =
    let e : c.from_residual-in_err-found.result ≡ Err c.in_err-found.field-0.0 = search rules in
    rw e (turned_no refl refl c.slip_read.ensures _ (own (goal.at.returns-in_err-found c).In_ok-check_edition) _ c.in_err-found.was)

pub overflow_mul-n : goal.overflow_mul-n
overflow_mul-n c = omega (arith, row_small refl refl c.slip_read.ensures c.in_ok-found.was)

pub returns-then-layout-n : goal.returns-then-layout-n
returns-then-layout-n c =
    turned_long refl refl c.slip_read.ensures c.in_ok-found.was (own (goal.at.returns-then-layout-n c).In_ok-check_edition) _ c.layout.ensures.value c.if-layout-n.true

pub slice_bounds-points-end : goal.slice_bounds-points-end
slice_bounds-points-end c = lends_points (goal.at.slice_bounds-points-end c).In_ok-found

pub slice_bounds-slip_write-end : goal.slice_bounds-slip_write-end
slice_bounds-slip_write-end c = sym (length-take-le _ _ (lends_points (goal.at.slice_bounds-slip_write-end c).In_ok-found))

pub slice_bounds-row-end : goal.slice_bounds-row-end
slice_bounds-row-end c = lends_row (goal.at.slice_bounds-row-end c).In_ok-found

pub slice_bounds-slip_write-end-2 : goal.slice_bounds-slip_write-end-2
slice_bounds-slip_write-end-2 c = sym (length-take-le _ _ (lends_row (goal.at.slice_bounds-slip_write-end-2 c).In_ok-found))

pub returns : goal.returns
returns c =
    turned_written refl refl c.slip_read.ensures c.in_ok-found.was (own (goal.at.returns c).In_ok-check_edition) _ c.layout.ensures.value
    (known_edition c.args.to) (omega (arith, c.if-layout-n.false)) (rw c.number.ensures at c.slip_write.ensures)
