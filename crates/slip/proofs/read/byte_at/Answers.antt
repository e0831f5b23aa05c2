-- `slip::read::byte_at` meets its contract: a byte is the number of its bits, and behind the last one stands 0.
use Rattle.std.proofs.Common.{◌≡◌, get_or, lit<, sym, ◌∙◌, arith}
use borrow.Author.Tests.{ltb-false}
use Rattle.slip.proofs.Packed.{byte_is, byte_none}
use Rattle.slip.proofs.read.byte_at.Goals as goal

pub returns-in-Some : goal.returns-in-Some
returns-in-Some c =
    let e : c.from.result ≡ get_or c.args.bytes.now c.args.i 0 = search arith in
    (e ∙ sym (byte_is _ (λ i. omega (arith, c.type_inv.bytes i)) _), omega (arith, e, c.type_inv.bytes c.args.i))

pub returns-in-None : goal.returns-in-None
returns-in-None c = (byte_none _ _ (ltb-false _ _ (sym c.in-None.ensures.lookup.0)), lit< tt)
