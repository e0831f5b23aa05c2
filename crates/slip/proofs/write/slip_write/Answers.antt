-- `slip::write::slip_write` meets its contract: each way out by its lemma, and what passes the checks is written.
use Rattle.std.proofs.Common.{rules, ◌≡◌, ◌+◌, true, length, sym, ◌∙◌, arith, Err}
use Rattle.defs.specs.Field.{Width}
use Rattle.defs.specs.Refusal.{fine}
use Rattle.defs.specs.Limits.{numbers_verdict, Within}
use Rattle.defs.specs.Slip.{is_edition, layout_of, slip_size}
use Rattle.defs.specs.Write.{write_verdict}
use Rattle.theory.proofs.Width.{width_top}
use Rattle.slip.proofs.Layouts.{laid, known_edition}
use Rattle.slip.proofs.Writer.{within_limits, within_width, few, refused_edition, refused_numbers, refused_code, code_fine, refused_row, refused_size, by_symbols, writable, within_fits, written_refused, written_done}
use Rattle.slip.proofs.write.slip_write.Goals as goal
use Rattle.slip.proofs.write.slip_write.Goals.{After-layout-layout, After-check_numbers, After-slip_size, In_ok-edition, In_ok-check_code, In_ok-check_symbols}

-- where the edition is known, and its layout
known : (c : In_ok-edition) → is_edition c.args.edition ≡ true
known c = rw c.in_ok-edition.ensures at (known_edition c.in_ok-edition.edition)

layout_is : (c : After-layout-layout) → c.layout-layout.result ≡ layout_of c.args.edition
layout_is c = rw c.in_ok-edition.ensures at c.layout-layout.ensures.value

-- what the check of the numbers found
numbers_are : (c : After-check_numbers) → numbers_verdict (layout_of c.args.edition).top c.args.m c.args.r c.args.k (length c.args.points.now) ≡ c.check_numbers.result
numbers_are c =
    let e = layout_is (goal.at.After-check_numbers c).After-layout-layout in
    rw e at (sym c.check_numbers.ensures)

-- where the code is inside the limits
within : (c : In_ok-check_code) → Within (layout_of c.args.edition).top c.args.m c.args.r c.args.k c.args.points.now
within c =
    code_fine _ _ _ _ _ c.args.row.now (length c.args.bytes.now) (known (goal.at.In_ok-check_code c).In_ok-edition)
    (numbers_are (goal.at.In_ok-check_code c).After-check_numbers ∙ c.in_ok-check_numbers.was) (sym c.in_ok-check_code.ensures.verdict)

width : (c : In_ok-check_code) → Width c.args.m
width c = within_width _ (laid c.args.edition) _ _ _ _ (within c)

size_is : (c : After-slip_size) → c.slip_size.result ≡ slip_size (layout_of c.args.edition) c.args.m (length c.args.points.now + length c.args.row.now)
size_is c = rw c.in_ok-edition.ensures at c.slip_size.ensures

-- where all is fine
passed : (c : In_ok-check_symbols) → write_verdict c.args.edition c.args.m c.args.r c.args.k c.args.points.now c.args.row.now (length c.args.bytes.now) ≡ fine
passed c =
    sym (by_symbols _ _ _ _ _ _ _ (known (goal.at.In_ok-check_symbols c).In_ok-edition) (within (goal.at.In_ok-check_symbols c).In_ok-check_code) c.if-row-r.false
    (rw (size_is (goal.at.In_ok-check_symbols c).After-slip_size) at c.if-bytes-slip_size.false) _ (sym c.in_ok-check_symbols.was ∙ c.check_symbols.ensures))

pub returns-in_err-edition : goal.returns-in_err-edition
returns-in_err-edition c =
    let e : c.from_residual.result ≡ Err c.in_err-edition.field-0.0 = search rules in
    rw (e, c.in_err-edition.ensures.0) (written_refused _ _ _ _ _ _ _ _ (refused_edition _ _ _ _ _ _ _ c.in_err-edition.ensures.1))

pub returns-in_err-check_numbers : goal.returns-in_err-check_numbers
returns-in_err-check_numbers c =
    let e : c.from_residual-in_err-check_numbers.result ≡ Err c.in_err-check_numbers.field-0.0 = search rules in
    rw e
    (written_refused _ _ _ _ _ _ _ _ (refused_numbers _ _ _ _ _ _ _ (known (goal.at.returns-in_err-check_numbers c).In_ok-edition) _
    (numbers_are (goal.at.returns-in_err-check_numbers c).After-check_numbers ∙ c.in_err-check_numbers.was)))

pub returns-in_err-check_code : goal.returns-in_err-check_code
returns-in_err-check_code c =
    let e : c.from_residual-in_err-check_code.result ≡ Err c.in_err-check_code.field-0.0 = search rules in
    rw e
    (written_refused _ _ _ _ _ _ _ _ (refused_code _ _ _ _ _ _ _ (known (goal.at.returns-in_err-check_code c).In_ok-edition)
    (numbers_are (goal.at.returns-in_err-check_code c).After-check_numbers ∙ c.in_ok-check_numbers.was) _ (sym c.in_err-check_code.ensures.verdict)))

pub overflow_mul-r : goal.overflow_mul-r
overflow_mul-r c =
    omega (arith, (within_limits _ (laid c.args.edition) _ _ _ _ (within (goal.at.overflow_mul-r c).In_ok-check_code)).numbers.row_top)

pub returns-then-row-r : goal.returns-then-row-r
returns-then-row-r c =
    written_refused _ _ _ _ _ _ _ _ (refused_row _ _ _ _ _ _ _ (known (goal.at.returns-then-row-r c).In_ok-edition) (within (goal.at.returns-then-row-r c).In_ok-check_code) c.if-row-r.true)

pub slip_size-requires : goal.slip_size-requires
slip_size-requires c = (
  width_top _ (width (goal.at.slip_size-requires c).In_ok-check_code),
  few _ (laid c.args.edition) _ _ _ c.args.points.now (within (goal.at.slip_size-requires c).In_ok-check_code) c.args.row.now c.if-row-r.false,
)

pub returns-then-bytes-slip_size : goal.returns-then-bytes-slip_size
returns-then-bytes-slip_size c =
    written_refused _ _ _ _ _ _ _ _ (refused_size _ _ _ _ _ _ _ (known (goal.at.returns-then-bytes-slip_size c).In_ok-edition) (within (goal.at.returns-then-bytes-slip_size c).In_ok-check_code) c.if-row-r.false
    (rw (size_is (goal.at.returns-then-bytes-slip_size c).After-slip_size) at c.if-bytes-slip_size.true))

pub invariant_of-field : goal.invariant_of-field
invariant_of-field c = record { known = width (goal.at.invariant_of-field c).In_ok-check_code }

pub returns-in_err-check_symbols : goal.returns-in_err-check_symbols
returns-in_err-check_symbols c =
    let e : c.from_residual-in_err-check_symbols.result ≡ Err c.in_err-check_symbols.field-0.0 = search rules in
    rw e
    (written_refused _ _ _ _ _ _ _ _ (by_symbols _ _ _ _ _ _ _ (known (goal.at.returns-in_err-check_symbols c).In_ok-edition) (within (goal.at.returns-in_err-check_symbols c).In_ok-check_code) c.if-row-r.false
    (rw (size_is (goal.at.returns-in_err-check_symbols c).After-slip_size) at c.if-bytes-slip_size.false) _ (sym c.in_err-check_symbols.was ∙ c.check_symbols.ensures)))

pub invariant_of-slip : goal.invariant_of-slip
invariant_of-slip c =
    let p = within (goal.at.invariant_of-slip c).In_ok-check_code in
    let w = writable _ _ _ _ _ _ _ (passed (goal.at.invariant_of-slip c).In_ok-check_symbols) in
    record {
      within = rw c.in_ok-edition.ensures p;
      fits = rw c.in_ok-edition.ensures (within_fits _ (laid c.args.edition) _ _ _ _ p);
      symbols = w.symbols;
      whole = w.row;
    }

pub fill-requires : goal.fill-requires
fill-requires c = let w = writable _ _ _ _ _ _ _ (passed (goal.at.fill-requires c).In_ok-check_symbols) in
    rw c.in_ok-edition.ensures w.room

pub returns : goal.returns
returns c =
    written_done _ _ _ _ _ _ _ (passed (goal.at.returns c).In_ok-check_symbols) _ (rw c.in_ok-edition.ensures at c.fill.ensures.size) _ (rw c.in_ok-edition.ensures at c.fill.ensures.written)
