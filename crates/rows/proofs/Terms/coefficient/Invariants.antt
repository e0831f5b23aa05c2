-- `coefficient` meets its contract: the terms below the power i are added.
use Prim.Native.Nat.{◌-◌}
use lib.ListN.{length}
use Rattle.rows.proofs.Hasse.{Added}
use Rattle.rows.proofs.Terms.coefficient.Given as goal

abbrev pub invariant-loop-i : goal.invariant-loop-i
invariant-loop-i l = Added l.self.field.m l.point l.self.message.now l.j l.i l.sum

abbrev pub decreases-loop-i : goal.decreases-loop-i
decreases-loop-i l = length l.self.message.now - l.i
