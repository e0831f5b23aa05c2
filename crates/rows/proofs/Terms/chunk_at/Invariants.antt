-- `chunk_at` meets its contract: the first j coefficients are written.
use Prim.Native.Nat.{ℕ, ◌<◌, ◌≤◌}
use mathlib.Core.Path.{◌≡◌}
use lib.ListN.{length, get_or}
use Rattle.defs.specs.Row.{coefficient}
use Rattle.defs.specs.Limits.{deepest}
use Rattle.rows.proofs.Terms.chunk_at.Given as goal

abbrev pub invariant-loop-j : goal.invariant-loop-j
invariant-loop-j l = record {
  size : length l.chunk ≡ deepest;
  written : (k : ℕ) → k < l.j → get_or l.chunk k 0 ≡ coefficient l.self.field.m l.self.message.now l.point k;
  rest : (k : ℕ) → l.j ≤ k → get_or l.chunk k 0 ≡ 0;
}
