-- `slip::read::open` meets its contract: each way out by its lemma.
use Rattle.std.proofs.Common.{rules, ◌≡◌, ◌/◌, ◌≤◌, ◌+◌, length, true, sym, ◌∙◌, Err}
use Rattle.defs.specs.Refusal.{fine}
use Rattle.defs.specs.Slip.{is_edition, edition_in, layout_in, width_in, size_in, head_bits}
use Rattle.theory.proofs.Width.{width_top}
use Rattle.slip.specs.Edition.{number}
use Rattle.slip.specs.Head.{Heads}
use Rattle.slip.proofs.Layouts.{known_edition}
use Rattle.slip.proofs.Reader.{numbers_in, symbols_few, heads_told, numbers_inside, size_inside, first_short, first_edition, first_cut, first_field, first_numbers, first_small, begun}
use Rattle.slip.proofs.read.open.Goals as goal
use Rattle.slip.proofs.read.open.Goals.{In_ok-edition, After-head_bits, Else-bytes-head_bits, After-check_numbers, In_ok-check_numbers, After-slip_size-size}

edition_is : (c : In_ok-edition) → number c.in_ok-edition.edition ≡ edition_in c.args.bytes.now
edition_is c = c.in_ok-edition.ensures ∙ c.edition_in.ensures

known : (c : In_ok-edition) → is_edition (edition_in c.args.bytes.now) ≡ true
known c = rw (edition_is c) at (known_edition c.in_ok-edition.edition)

first_is : (c : After-head_bits) → c.head_bits.result / 8 ≡ head_bits (layout_in c.args.bytes.now) / 8
unfolding layout_in
first_is c =
    let e = edition_is (goal.at.After-head_bits c).In_ok-edition in
    rw (c.head_bits.ensures, e)

-- where the header is there
whole : (c : Else-bytes-head_bits) → head_bits (layout_in c.args.bytes.now) / 8 ≤ length c.args.bytes.now
whole c = rw (first_is (goal.at.Else-bytes-head_bits c).After-head_bits) at c.if-bytes-head_bits.false

-- where its numbers were looked at
heads : (c : After-check_numbers) → Heads c.args.bytes.now c.in_ok-edition.edition c.in-Some.field.m (c.number_at-r.result + 1) (c.number_at-count.result + 1) (c.number_at-k.result + 1)
heads c =
    heads_told c.args.bytes.now c.in_ok-edition.edition c.layout-layout.result _ _ _ _ _
    (edition_is (goal.at.After-check_numbers c).In_ok-edition)
    c.layout-layout.ensures.value
    c.number_at.ensures.0
    c.in-Some.ensures
    c.number_at-r.ensures.0
    c.number_at-count.ensures.0
    c.number_at-k.ensures.0

numbers_are : (c : After-check_numbers) → c.check_numbers.result ≡ numbers_in c.args.bytes.now
numbers_are c = (rw c.layout-layout.ensures.value at c.check_numbers.ensures) ∙ numbers_inside (heads c)

passed : (c : In_ok-check_numbers) → numbers_in c.args.bytes.now ≡ fine
passed c = sym (numbers_are (goal.at.In_ok-check_numbers c).After-check_numbers) ∙ c.in_ok-check_numbers.was

size_is : (c : After-slip_size-size) → c.slip_size-size.result ≡ size_in c.args.bytes.now
size_is c = c.slip_size-size.ensures ∙ size_inside (heads (goal.at.After-slip_size-size c).After-check_numbers)

pub returns-then-bytes-lt3-clause-verdict : goal.returns-then-bytes-lt3-clause-verdict
returns-then-bytes-lt3-clause-verdict c = first_short _ c.if-bytes-lt3.true

pub returns-in_err-edition-clause-verdict : goal.returns-in_err-edition-clause-verdict
returns-in_err-edition-clause-verdict c =
    let e : c.from_residual.result ≡ Err c.in_err-edition.field-0.0 = search rules in
    rw (e, c.in_err-edition.ensures.0) (first_edition _ c.if-bytes-lt3.false (rw c.edition_in.ensures at c.in_err-edition.ensures.1))

pub returns-then-bytes-head_bits-clause-verdict : goal.returns-then-bytes-head_bits-clause-verdict
returns-then-bytes-head_bits-clause-verdict c =
    first_cut _ c.if-bytes-lt3.false (known (goal.at.returns-then-bytes-head_bits-clause-verdict c).In_ok-edition)
    (rw (first_is (goal.at.returns-then-bytes-head_bits-clause-verdict c).After-head_bits) at c.if-bytes-head_bits.true)

pub returns-in_default-clause-verdict : goal.returns-in_default-clause-verdict
unfolding width_in
returns-in_default-clause-verdict c =
    let e : width_in c.args.bytes.now ≡ 0 = rw c.number_at.ensures.0 at c.in_default.ensures in
    first_field _ c.if-bytes-lt3.false (known (goal.at.returns-in_default-clause-verdict c).In_ok-edition) (whole (goal.at.returns-in_default-clause-verdict c).Else-bytes-head_bits) e

pub returns-in_err-check_numbers-clause-verdict : goal.returns-in_err-check_numbers-clause-verdict
returns-in_err-check_numbers-clause-verdict c =
    let e : c.from_residual-in_err-check_numbers.result ≡ Err c.in_err-check_numbers.field-0.0 = search rules in
    rw e
    (first_numbers _ c.if-bytes-lt3.false (known (goal.at.returns-in_err-check_numbers-clause-verdict c).In_ok-edition) (whole (goal.at.returns-in_err-check_numbers-clause-verdict c).Else-bytes-head_bits) _
    (sym (numbers_are (goal.at.returns-in_err-check_numbers-clause-verdict c).After-check_numbers) ∙ c.in_err-check_numbers.was))

pub slip_size-size-requires : goal.slip_size-size-requires
slip_size-size-requires c =
    let h = heads (goal.at.slip_size-size-requires c).After-check_numbers in
    let few = symbols_few _ (passed (goal.at.slip_size-size-requires c).In_ok-check_numbers) in
    (width_top _ c.in-Some.field.known, rw (h.r_is, h.count_is) few)

pub returns-then-bytes-size-clause-verdict : goal.returns-then-bytes-size-clause-verdict
returns-then-bytes-size-clause-verdict c =
    first_small _ c.if-bytes-lt3.false (known (goal.at.returns-then-bytes-size-clause-verdict c).In_ok-edition) (whole (goal.at.returns-then-bytes-size-clause-verdict c).Else-bytes-head_bits)
    (passed (goal.at.returns-then-bytes-size-clause-verdict c).In_ok-check_numbers) (rw (size_is (goal.at.returns-then-bytes-size-clause-verdict c).After-slip_size-size) at c.if-bytes-size.true)

pub invariant_of-result : goal.invariant_of-result
invariant_of-result c =
    let size = size_is (goal.at.invariant_of-result c).After-slip_size-size in
    record {
      begins = begun _
          (record {
            long = c.if-bytes-lt3.false;
            known = known (goal.at.invariant_of-result c).In_ok-edition;
            whole = whole (goal.at.invariant_of-result c).Else-bytes-head_bits;
            is_fine = passed (goal.at.invariant_of-result c).In_ok-check_numbers;
            size = rw size at c.if-bytes-size.false;
          });
      heads = heads (goal.at.invariant_of-result c).After-check_numbers;
      sized = size;
    }
