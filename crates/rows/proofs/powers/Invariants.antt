-- `powers` meets its contract: the powers below i are written, and x is the next.
use Prim.Native.Nat.{ℕ, ◌<◌, ◌≤◌}
use mathlib.Core.Path.{◌≡◌}
use lib.ListN.{length, get_or}
use Rattle.defs.specs.Field.{pow}
use Rattle.field.specs.Arithmetic.{Element}
use Rattle.rows.specs.Tables.{nowhere, places}
use Rattle.rows.proofs.powers.Given as goal

abbrev pub invariant-loop-i : goal.invariant-loop-i
invariant-loop-i l = record {
  size : length l.table ≡ places;
  written : (k : ℕ) → k < l.i → get_or l.table k 0 ≡ pow l.field.m 2 k;
  zeros : (k : ℕ) → nowhere ≤ k → get_or l.table k 0 ≡ 0;
  next : Element l.field.m (pow l.field.m 2 l.i) l.x;
}
