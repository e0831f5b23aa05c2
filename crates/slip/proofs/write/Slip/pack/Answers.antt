-- `slip::write::Slip::pack` meets its contract: byte is the number of the bits of the symbols that were taken.
use Rattle.std.proofs.Common.{◌<◌, ◌≤◌, ◌*◌, arith}
use native.Mathlib.Nat.{mul-le-mul}
use Rattle.theory.proofs.Width.{width_pos, field_top}
use Rattle.slip.proofs.Packed.{pack_first, pack_turn, pack_small, pack_last}
use Rattle.slip.proofs.Writer.{symbols}
use Rattle.slip.proofs.write.Slip.pack.Goals as goal
use Rattle.slip.proofs.write.Slip.pack.Goals.{At-loop-j}

-- at the loop's head
small : (c : At-loop-j) → c.loop-j.byte < 256
small c = pack_small c.args.self.now.field.m c.args.i _ (c.args.self.now.field.known) c.loop-j.j c.loop-j.byte (omega arith) c.loop-j.invariant

product : (c : At-loop-j) → c.loop-j.byte * c.size-size.result ≤ 256 * 256
product c = mul-le-mul {n₁ = c.loop-j.byte} {m₁ = c.size-size.result} {n₂ = 256} {m₂ = 256} (omega (arith, (small c)))
    (omega (arith, c.size-size.ensures, field_top c.args.self.now.field.m (c.args.self.now.field.known)))

pub nonzero_div-each : goal.nonzero_div-each
nonzero_div-each c = width_pos _ (c.args.self.now.field.known)

pub loop-j-init : goal.loop-j-init
loop-j-init c = pack_first _ _ _ (c.args.self.now.field.known)

pub loop-j-preserved : goal.loop-j-preserved
loop-j-preserved c =
    rw (c.size-size.ensures, c.from.ensures, c.symbol.ensures)
    (pack_turn _ _ _ (c.args.self.now.field.known) (symbols c.args.self.now) c.loop-j.j c.loop-j.byte c.loop-j.invariant)

pub overflow_mul-byte : goal.overflow_mul-byte
overflow_mul-byte c = omega (arith, product (goal.at.overflow_mul-byte c).At-loop-j)

pub overflow_add-byte : goal.overflow_add-byte
overflow_add-byte c = omega (arith, product (goal.at.overflow_add-byte c).At-loop-j, c.from.ensures)

pub overflow_cast-result : goal.overflow_cast-result
overflow_cast-result c = omega (arith, small (goal.at.overflow_cast-result c).At-loop-j)

pub returns : goal.returns
returns c = pack_last _ _ _ (c.args.self.now.field.known) c.loop-j.j c.loop-j.byte (omega arith) c.loop-j.invariant
