-- `slip::read::Reader::loose_bits` meets its contract: the zero bits end the header, the fill is what the symbols leave of the last byte.
use Rattle.std.proofs.Common.{◌≡◌, ◌≤◌, ◌*◌, ◌+◌, ap, arith}
use Rattle.defs.specs.Limits.{longest}
use Rattle.defs.specs.Slip.{head_bits, slip_size, used_in}
use Rattle.defs.specs.declared.Layout.{Layout}
use Rattle.slip.proofs.Reader.{opened, held_few, place_low, header_top}
use Rattle.slip.proofs.Canonical.{fill_few, used_is, loose_is}
use Rattle.slip.proofs.read.Reader.loose_bits.Goals as goal
use Rattle.slip.proofs.read.Reader.loose_bits.Goals.{After-row_len}

-- where the symbols are counted
used_inside : (c : After-row_len) → c.head_bits-start.result + c.args.self.now.field.m * (c.args.self.now.count + c.row_len.result) ≡ used_in c.args.self.now.bytes.now
used_inside c = rw c.row_len.ensures (used_is c.args.self.now c.head_bits-start.result c.head_bits-start.ensures)

low : (c : After-row_len) → c.head_bits-start.result + c.args.self.now.field.m * (c.args.self.now.count + c.row_len.result) ≤ 32 + 8 * (2 * longest)
low c = place_low c.args.self.now c.head_bits-start.result _ c.head_bits-start.ensures (omega (arith, c.row_len.ensures))

pub overflow_add-used : goal.overflow_add-used
overflow_add-used c = omega (arith, held_few c.args.self.now, c.row_len.ensures)

pub overflow_mul-used : goal.overflow_mul-used
overflow_mul-used c = omega (arith, low (goal.at.overflow_mul-used c).After-row_len)

pub overflow_add-used-2 : goal.overflow_add-used-2
overflow_add-used-2 c = omega (arith, low (goal.at.overflow_add-used-2 c).After-row_len)

pub overflow_mul-left : goal.overflow_mul-left
unfolding slip_size head_bits
overflow_mul-left c = let s = c.args.self.now in
    omega (arith, s.sized, header_top s.bytes.now (opened s).is_fine)

pub overflow_sub-left : goal.overflow_sub-left
overflow_sub-left c = let s = c.args.self.now in
    omega (arith, used_inside (goal.at.overflow_sub-left c).After-row_len, fill_few s.bytes.now, s.sized)

pub number_at-requires-2 : goal.number_at-requires-2
number_at-requires-2 c = let s = c.args.self.now in
    omega (arith, used_inside (goal.at.number_at-requires-2 c).After-row_len, fill_few s.bytes.now, s.sized)

pub returns : goal.returns
returns c =
    loose_is c.args.self.now c.head_bits-start.result c.head_bits-start.ensures c.layout-zeros.result.zerobits _ _ _ (ap (λ (L : Layout). L.zerobits) c.layout-zeros.ensures.value)
    (used_inside (goal.at.returns c).After-row_len) c.number_at.ensures.0 c.number_at-2.ensures.0
