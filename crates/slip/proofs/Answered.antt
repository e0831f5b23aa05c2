-- What the reader's answer says of the bytes, of the code's numbers and of the two buffers.
use Rattle.std.proofs.Common.{ℕ, ◌*◌, ◌≤◌, ◌≡◌, refl, ap, sym, ◌∙◌, List, arith, length, take, drop, length-append, Result, Err, Ok}
use Rattle.defs.specs.Refusal.{Verdict, fine, verdict_of, kept}
use Rattle.defs.specs.Slip.{edition_in, width_in, depth_in, count_in, dimension_in, points_in, row_in}
use Rattle.defs.specs.Write.{front}
use Rattle.defs.specs.Read.{read_verdict, reading, Read}
use Rattle.defs.specs.declared.Refusal.{Refusal}
use Rattle.defs.specs.declared.SlipRead.{SlipRead}
use Rattle.slip.proofs.Front.{take_front}
use Rattle.slip.proofs.Taken.{length_points, length_row}

-- what the reader tells of a slip that passes its checks
abbrev pub told : List ℕ → SlipRead
told s = record { edition = edition_in s; m = width_in s; r = depth_in s; count = count_in s; k = dimension_in s }

-- the reader is refused as its checks are
reading_verdict : (v : Verdict) (bytes : List ℕ) → verdict_of (reading v bytes) ≡ v
unfolding reading
reading_verdict (Ok _) bytes = refl
reading_verdict (Err x) bytes = refl

length_front : (new old : List ℕ) → length new ≤ length (front new old)
unfolding front
length_front new old = omega (arith, length-append new (drop (length new) old))

module _ {bytes points row : List ℕ} {a : Result SlipRead Refusal} {points' row' : List ℕ} (x : Read bytes points row a points' row') where
  abbrev v : Verdict
  v = read_verdict bytes (length points) (length row)

  pub verdict_is : verdict_of a ≡ v
  verdict_is = rw x.answers (reading_verdict v bytes)

  pub read_no : (y : Refusal) → a ≡ Err y → v ≡ Err y
  read_no y e = sym verdict_is ∙ rw e

  module _ (s : SlipRead) (done : a ≡ Ok s) where
    pub read_fine : v ≡ fine
    read_fine = sym verdict_is ∙ rw done

    -- its numbers are those that stand in the slip
    pub read_numbers : s ≡ told bytes
    unfolding reading
    read_numbers = let e : Ok s ≡ reading fine bytes = sym done ∙ x.answers ∙ rw read_fine in cc

    -- the buffers begin with its points and its row
    points_front : points' ≡ front (points_in bytes) points
    unfolding kept
    points_front = x.leaves_points ∙ rw read_fine

    row_front : row' ≡ front (row_in bytes) row
    unfolding kept
    row_front = x.leaves_row ∙ rw read_fine

    pub points_inside : take (count_in bytes) points' ≡ points_in bytes
    points_inside = ap (take (count_in bytes)) points_front ∙ take_front (points_in bytes) points (count_in bytes) (length_points bytes)

    pub row_inside : take (depth_in bytes * count_in bytes) row' ≡ row_in bytes
    row_inside = ap (take (depth_in bytes * count_in bytes)) row_front ∙ take_front (row_in bytes) row (depth_in bytes * count_in bytes) (length_row bytes)

    pub points_fit : count_in bytes ≤ length points'
    points_fit = rw points_front (omega (arith, length_points bytes, length_front (points_in bytes) points))

    pub row_fits : depth_in bytes * count_in bytes ≤ length row'
    row_fits = rw row_front (omega (arith, length_row bytes, length_front (row_in bytes) row))
