-- `slip::read::number_at` meets its contract: out of two bytes, what is behind the number is divided away and what is before it is cut off.
use Prim.Native.Nat.{◌*◌, ◌%◌, ◌^◌}
use mathlib.Core.Path.{◌≡◌, ◌∙◌}
use native.Mathlib.Nat.{one-mul, mod-lt, lt_of_lt_of_le}
use native.Mathlib.Omega.{arith}
use lib.Dec.{lit<}
use lib.Pow.{pow_pos, pow_mono, shl_exact}
use Rattle.slip.proofs.Bits.{all_bits_are}
use Rattle.slip.proofs.Packed.{number_read}
use Rattle.slip.proofs.read.number_at.Goals as goal

pub returns : goal.returns
returns c =
    let power : 1 * 2 ^ c.args.width % 2 ^ 64 ≡ 2 ^ c.args.width = shl_exact {a = 1} 1 c.args.width 64 (lit< tt) (omega (arith, c.requires)) ∙ one-mul (2 ^ c.args.width) in
    rw power (
      number_read c.args.width c.args.place _ (all_bits_are 8 c.args.bytes.now) c.requires _ _ c.byte_at-first.ensures.0 c.byte_at.ensures.0,
      lt_of_lt_of_le (mod-lt _ (pow_pos c.args.width)) (pow_mono {j = 8} c.requires),
    )
