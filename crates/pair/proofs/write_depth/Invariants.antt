-- `pair::write_depth` meets its contract.
use Prim.Native.Nat.{◌<◌}
use mathlib.Core.Path.{◌≡◌}
use Rattle.theory.specs.Fill.{filled}
use Rattle.pair.specs.Equation.{deeper}
use Rattle.pair.specs.Fill.{look}
use Rattle.pair.proofs.write_depth.Given as goal

abbrev pub invariant-loop-a : goal.invariant-loop-a
invariant-loop-a l = let G = deeper (look l.products) l.first (look l.above) in
    (l.x < 256) × (l.x ≡ G l.a) × (l.row ≡ filled l.initial.row 0 G l.a)
