-- `slip::write::Slip::byte` meets its contract: the bytes of the header, then the packed ones.
use Rattle.std.proofs.Common.{ℕ, ◌≡◌, ◌/◌, ap, ◌∙◌, arith}
use Rattle.defs.specs.Slip.{head_bits}
use Rattle.slip.specs.Edition.{number, layout}
use Rattle.slip.proofs.Layouts.{laid}
use Rattle.slip.proofs.Packed.{header_byte, body_byte}
use Rattle.slip.proofs.write.Slip.byte.Goals as goal
use Rattle.slip.proofs.write.Slip.byte.Goals.{After-head_bits-first}

-- where the header's bits are known
first_is : (c : After-head_bits-first) → c.head_bits-first.result / 8 ≡ head_bits (layout c.args.self.now.edition) / 8
first_is c = ap (λ (n : ℕ). n / 8) c.head_bits-first.ensures

pub returns : goal.returns
returns c =
    let e = first_is (goal.at.returns c).After-head_bits-first in
    rw e (header_byte _ _ _ _ _ _ (laid (number c.args.self.now.edition)) _ _ (omega (arith, e, c.if-first-i.false)) c.header.ensures)

pub returns-then-first-i : goal.returns-then-first-i
returns-then-first-i c =
    let e = first_is (goal.at.returns-then-first-i c).After-head_bits-first in
    c.pack.ensures ∙ rw e (body_byte _ _ _ _ _ _ (laid (number c.args.self.now.edition)) _ (omega (arith, e, c.if-first-i.true)))

pub overflow_shr-result : goal.overflow_shr-result
overflow_shr-result c = omega (arith, first_is (goal.at.overflow_shr-result c).After-head_bits-first, (laid (number c.args.self.now.edition)).bytes_top)
