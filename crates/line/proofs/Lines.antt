-- No line is longer than the room for it, 6 bytes for each symbol of the longest row and 8.
use Prim.Native.Nat.{ℕ, ◌*◌, ◌+◌, ◌<◌, ◌≤◌}
use mathlib.Core.List.{List, []}
use native.Mathlib.Decide.{dec_lt}
use native.Mathlib.Omega.{arith}
use native.Mathlib.Nat.{lt_of_lt_of_le}
use lib.Dec.{lit<}
use lib.ListN.{length, get_or, get_or-eq_default}
use Rattle.defs.specs.Place.{tab}
use Rattle.defs.specs.Row.{row_of}
use Rattle.defs.specs.Distance.{damage, depths, distance, radius, reach, Near}
use Rattle.defs.specs.Limits.{longest, Inside}
use Rattle.defs.specs.Decode.{Decoded, refused, found, none}
use Rattle.defs.specs.Line as L
use Rattle.defs.specs.Line.{line_of, RowLine, Line}
use Rattle.defs.specs.declared.Refusal.TheVariants.{TooFar}
use Rattle.theory.proofs.Place.{length_tab, get_d_tab}
use Rattle.theory.proofs.Distance.{length_depths}
use Rattle.theory.proofs.Limits.{inside_known, count_small}
use Rattle.theory.proofs.Checks.{decode_known}
use Rattle.theory.proofs.Refusals.{decode_every}
use Rattle.theory.proofs.Width.{field_top}
use Rattle.line.specs.Text.{room}
use Rattle.line.proofs.Lengths.{refused_short, done_short}
use Rattle.line.proofs.Slips.{read_every}
use Rattle.std.proofs.Common.{Ok}
use Rattle.defs.specs.Refusal.{Answer}

depth_low : (r count : ℕ) (u w : List ℕ) → r ≤ 8 → (i : ℕ) → get_or (depths r count u w) i 0 < 10
unfolding depths damage
depth_low r count u w h i = go (dec_lt i count)
  where
    go : Dec (i < count) → get_or (tab (damage r u w) count) i 0 < 10
    go (yes l) = rw (get_d_tab (damage r u w) count i l) (omega arith)
    go (no l) = rw (get_or-eq_default (tab (damage r u w) count) 0 {n = i} (omega (arith, length_tab (damage r u w) count))) (lit< tt)

-- twice the radius and the message are no more than the row
reach_top : (r k : ℕ) (points : List ℕ) → k ≤ r * length points → k + 2 * reach r k points ≤ r * length points
unfolding radius
reach_top r k points h = omega arith

module _ (m r k : ℕ) (points w : List ℕ) where
  found_short : (f : List ℕ) → Inside m r k points → Near m r k points w f
      → length (line_of (Ok (distance r (length points) (row_of m r points f) w)) f (depths r (length points) (row_of m r points f) w)) ≤ room
  found_short f inside near =
      let n = (inside_known m r k points inside).numbers in
      done_short _ f _
      (omega (arith, near.within, near.message.size, reach_top r k points n.k_top, n.row_top))
      (λ i. lt_of_lt_of_le (near.message.symbols i) (omega (arith, field_top m n.width)))
      (omega (arith, length_depths r (length points) (row_of m r points f) w, count_small n))
      (depth_low r (length points) (row_of m r points f) w n.r_top)

  decoded_short : (message depth : List ℕ) (a : Answer) (s t : List ℕ) → Decoded m r k points w message depth a s t → length (line_of a s t) ≤ room
  decoded_short message depth a s t (refused x v p _ _) =
      rw p (refused_short x s t ((decode_every (λ y l. l) m r k points w (length message) (length depth)).of x v))
  decoded_short message depth a s t (found f v near p q h) = rw (p, q, h) (found_short f (decode_known m r k points w _ _ v).0 near)
  decoded_short message depth a s t (none v far p _ _) = rw p (refused_short TooFar s t (lit< tt))

  pub row_short : (text : List ℕ) → RowLine m r k points w text → length text ≤ room
  row_short text (L.decoded message depth s t a _ _ d e) = rw e (decoded_short message depth a s t d)

pub line_short : (bytes text : List ℕ) → Line bytes text → length text ≤ room
line_short bytes text (L.refused x e q) = rw q (refused_short x [] [] ((read_every (λ y o l. l) bytes longest longest).of x e))
line_short bytes text (L.read e row) = row_short _ _ _ _ _ text row
