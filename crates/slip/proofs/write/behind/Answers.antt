-- `slip::write::behind` meets its contract: nothing is shifted out.
use Prim.Native.Nat.{◌*◌, ◌%◌, ◌^◌, ◌≤◌}
use mathlib.Core.Path.{◌≡◌}
use native.Mathlib.Nat.{mul-le-mul}
use native.Mathlib.Omega.{arith}
use lib.Pow.{pow_mono, shl_exact}
use Rattle.slip.proofs.write.behind.Goals as goal

pub returns : goal.returns
returns c =
    let moved : c.args.h * 2 ^ c.args.width % 2 ^ 64 ≡ c.args.h * 2 ^ c.args.width = shl_exact {a = c.args.h} 32 c.args.width 64 c.requires.0 (omega (arith, c.requires.1)) in
    let small : c.args.h * 2 ^ c.args.width ≤ c.args.h * 256 = mul-le-mul {n₁ = c.args.h} {m₁ = 2 ^ c.args.width} {n₂ = c.args.h} {m₂ = 256} (omega arith) (pow_mono {j = 8} c.requires.1) in
    (rw moved, omega (arith, moved, small, c.requires))
