-- `logs` meets its contract: the powers below i have their logarithms.
use Prim.Native.Nat.{◌-◌, ◌^◌, ◌<◌}
use native.Mathlib.Omega.{arith}
use Rattle.rows.proofs.Lookup.{logs_more, logs_last}
use Rattle.rows.proofs.logs.Goals as goal

pub loop-i-preserved : goal.loop-i-preserved
loop-i-preserved c =
    let low : c.loop-i.i < 2 ^ c.args.field.m - 1 = omega (arith, c.size-i-end.ensures) in
    logs_more _ c.args.field.known _ _ _ c.loop-i.invariant low (omega (arith, c.requires.at c.loop-i.i (omega (arith, low))))

pub returns : goal.returns
returns c = logs_last _ c.args.field.known _ _ c.loop-i.invariant (omega (arith, c.size-i-end.ensures))
