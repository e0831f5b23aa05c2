-- `slip::read::slip_read` meets its contract: what passes the checks has room, and is read.
use Rattle.std.proofs.Common.{rules, ◌≡◌, ◌≤◌, ◌*◌, length, take, length-take-le, sym, ◌∙◌, arith, Err}
use Rattle.defs.specs.Refusal.{fine}
use Rattle.defs.specs.Slip.{points_in, row_in, symbols_in}
use Rattle.defs.specs.Read.{read_verdict}
use Rattle.slip.proofs.Front.{symbols_front}
use Rattle.slip.proofs.Reader.{head_first, read_head, read_room, row_is, read_refused, read_done}
use Rattle.slip.proofs.read.slip_read.Goals as goal
use Rattle.slip.proofs.read.slip_read.Goals.{In_default}

-- where the checks are passed
passed : (c : In_default) → read_verdict c.args.bytes.now (length c.args.points.now) (length c.args.row.now) ≡ fine
passed c = rw c.in_ok-slip.ensures.reader at (sym c.check.ensures ∙ c.in_default.is)

-- there is room for the points and for the row
points_room : (c : In_default) → c.in_ok-slip.slip.count ≤ length c.args.points.now
points_room c = rw (c.in_ok-slip.slip.heads.count_is, c.in_ok-slip.ensures.reader) (read_room _ _ _ (passed c)).0

row_room : (c : In_default) → c.in_ok-slip.slip.r * c.in_ok-slip.slip.count ≤ length c.args.row.now
row_room c = rw (row_is c.in_ok-slip.slip, c.in_ok-slip.ensures.reader) (read_room _ _ _ (passed c)).1

pub returns-in_err-slip : goal.returns-in_err-slip
returns-in_err-slip c =
    let e : c.from_residual.result ≡ Err c.in_err-slip.field-0.0 = search rules in
    rw e (read_refused _ _ _ _ (sym (read_head _ _ _ _ (sym (head_first _ _ (sym c.in_err-slip.ensures.verdict))))))

pub returns-in-Err : goal.returns-in-Err
returns-in-Err c = read_refused _ _ _ _ (rw c.in_ok-slip.ensures.reader at (sym c.check.ensures ∙ c.in-Err.is))

pub slice_bounds-take-end : goal.slice_bounds-take-end
slice_bounds-take-end c = points_room (goal.at.slice_bounds-take-end c).In_default

pub slice_bounds-take-end-2 : goal.slice_bounds-take-end-2
slice_bounds-take-end-2 c = sym (length-take-le c.in_ok-slip.slip.count c.args.points.now (points_room (goal.at.slice_bounds-take-end-2 c).In_default))

pub slice_bounds-take-end-3 : goal.slice_bounds-take-end-3
slice_bounds-take-end-3 c = omega (arith, row_room (goal.at.slice_bounds-take-end-3 c).In_default, c.row_len.ensures)

pub slice_bounds-take-end-4 : goal.slice_bounds-take-end-4
slice_bounds-take-end-4 c =
    sym (length-take-le c.row_len.result c.args.row.now (omega (arith, row_room (goal.at.slice_bounds-take-end-4 c).In_default, c.row_len.ensures)))

pub returns : goal.returns
unfolding points_in row_in
returns c =
    let s = c.in_ok-slip.slip in
    let same = c.in_ok-slip.ensures.reader in
    let n : c.row_len.result ≡ s.r * s.count = c.row_len.ensures in
    let points : c.take.new.out ≡ symbols_in s.bytes.now 0 (length (take s.count c.args.points.now)) = c.take.ensures in
    let row : c.take-2.new.out ≡ symbols_in s.bytes.now s.count (length (take c.row_len.result c.args.row.now)) = c.take-2.ensures in
    read_done _ _ _ (passed (goal.at.returns c).In_default) _ (rw same at c.numbers.ensures) _ _
    (symbols_front _ _ _ _ _ (points_room (goal.at.returns c).In_default) points ∙ rw (s.heads.count_is, same))
    (symbols_front _ _ _ _ _ (omega (arith, row_room (goal.at.returns c).In_default, n)) row ∙ rw (n, row_is s, s.heads.count_is, same))
