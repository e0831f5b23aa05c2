-- `symbol_logs` meets its contract: the logarithms of the first i symbols are written.
use Prim.Native.Nat.{ℕ, ◌<◌}
use mathlib.Core.Path.{◌≡◌}
use lib.ListN.{length, get_or}
use Rattle.defs.specs.Limits.{longest}
use Rattle.rows.proofs.symbol_logs.Given as goal

abbrev pub invariant-loop-i : goal.invariant-loop-i
invariant-loop-i l = record {
  size : length l.table ≡ longest;
  written : (k : ℕ) → k < l.i → get_or l.table k 0 ≡ get_or l.logs (get_or l.message k 0) 0;
}
