-- `slip::write::Slip::fill` meets its contract: the first i places are filled.
use Rattle.std.proofs.Common.{ℕ, length-take-le, arith}
use Rattle.defs.specs.Slip.{slip_size, head_bits}
use Rattle.theory.proofs.Fill.{filled_none, filled_next}
use Rattle.slip.proofs.Front.{slip_filled}
use Rattle.slip.proofs.write.Slip.fill.Goals as goal

pub loop-i-init : goal.loop-i-init
loop-i-init c = filled_none _ _ _

pub byte-requires : goal.byte-requires
unfolding slip_size head_bits
byte-requires c = omega (arith, c.size-size.ensures, length-take-le {A = ℕ})

pub loop-i-preserved : goal.loop-i-preserved
loop-i-preserved c =
    rw (c.loop-i.invariant, c.byte.ensures) (filled_next _ _ c.loop-i.i c.loop-i-test.true)

pub returns-clause-written : goal.returns-clause-written
returns-clause-written c =
    slip_filled _ _ _ _ _ _ _ _ _ c.loop-i.i c.size-size.ensures.0 (omega (arith, c.size-size.ensures)) (omega arith) c.loop-i.invariant
