-- What the slip reader answers, and what it leaves in the points and the row, for every input.
use Rattle.std.specs.Prelude.{ℕ, ◌+◌, ◌*◌, ◌≡◌, Bool, ◌||◌, not, List, ltb, length, Result, Err, Ok}
use Rattle.defs.specs.Refusal.{refuse, and_then, kept, Verdict, fine}
use Rattle.defs.specs.Limits.{numbers_verdict, first_twice}
use Rattle.defs.specs.Slip.{is_edition, head_size, edition_in, layout_in, width_in, depth_in, count_in, dimension_in, size_in, points_in, row_in, spare_in, fill_in}
use Rattle.defs.specs.Write.{front}
use Rattle.defs.specs.declared.Refusal.{Refusal}
use Rattle.defs.specs.declared.Refusal.TheVariants.{PointTwice, Length, SlipShort, Edition, SlipLong, SlipBits}
use Rattle.defs.specs.declared.SlipRead.{SlipRead}

-- 10, 11, 10 for the header; 1, 3, 4; 10: the bytes begin with a slip, by its header and their length alone.
-- The editions that a reader knows are told by a test, because another reader may know one of the two alone.
unfoldable pub first_verdict_of : (ℕ → Bool) → List ℕ → Verdict
first_verdict_of known bytes =
    refuse (ltb (length bytes) 3) SlipShort
    (refuse (not (known (edition_in bytes))) Edition
    (refuse (ltb (length bytes) (head_size (layout_in bytes))) SlipShort
    (and_then (numbers_verdict (layout_in bytes).top (width_in bytes) (depth_in bytes) (dimension_in bytes) (count_in bytes))
    (refuse (ltb (length bytes) (size_in bytes)) SlipShort fine))))

abbrev pub first_verdict : List ℕ → Verdict
first_verdict = first_verdict_of is_edition

-- then 12: nothing stands behind it
unfoldable pub head_verdict : List ℕ → Verdict
head_verdict bytes = and_then (first_verdict bytes) (refuse (ltb (size_in bytes) (length bytes)) SlipLong fine)

-- then 13, 6, 7; the two numbers are the lengths of the point buffer and of the row buffer
unfoldable pub read_verdict : List ℕ → ℕ → ℕ → Verdict
read_verdict bytes count n = and_then (head_verdict bytes)
    (refuse (ltb 0 (spare_in bytes + fill_in bytes)) SlipBits
    (refuse (ltb (first_twice (points_in bytes)) (count_in bytes)) (PointTwice (first_twice (points_in bytes)))
    (refuse (ltb count (count_in bytes) || ltb n (depth_in bytes * count_in bytes)) Length fine)))

-- the edition and the code's numbers, or refused
unfoldable pub reading : Verdict → List ℕ → Result SlipRead Refusal
reading (Ok _) s = Ok (record { edition = edition_in s; m = width_in s; r = depth_in s; count = count_in s; k = dimension_in s })
reading (Err x) s = Err x

pub record Read (bytes points row : List ℕ) (s : Result SlipRead Refusal) (points' row' : List ℕ) : Type 0 where
  pub answers : s ≡ reading (read_verdict bytes (length points) (length row)) bytes
  pub leaves_points : points' ≡ kept (read_verdict bytes (length points) (length row)) (front (points_in bytes) points) points
  pub leaves_row : row' ≡ kept (read_verdict bytes (length points) (length row)) (front (row_in bytes) row) row
