-- A slip turned into one of the other edition: what the two calls answer, and what they leave in the bytes, for every input.
use Rattle.std.specs.Prelude.{ℕ, ◌*◌, ◌≡◌, List, eqb, ltb, length}
use Rattle.defs.specs.Refusal.{refuse, and_then, answer, kept, Answer, Verdict, fine}
use Rattle.defs.specs.Limits.{longest}
use Rattle.defs.specs.Slip.{layout_of, slip_of, width_in, depth_in, count_in, dimension_in, points_in, row_in}
use Rattle.defs.specs.Write.{front}
use Rattle.defs.specs.Read.{first_verdict_of, read_verdict}
use Rattle.defs.specs.declared.Refusal.TheVariants.{Length, RowLong}

-- the code and the row that stand in a slip, written in another edition
unfoldable pub turned : ℕ → List ℕ → List ℕ
turned to slip = slip_of (layout_of to) (width_in slip) (depth_in slip) (dimension_in slip) (points_in slip) (row_in slip)

-- 11 for the other edition too, the reader's with room for every row; 15 for a row too long for the edition to; 7;
-- size is the length of the byte buffer
unfoldable pub turn_verdict : ℕ → ℕ → List ℕ → ℕ → Verdict
turn_verdict from to slip size = and_then (first_verdict_of (eqb from) slip) (and_then (read_verdict slip longest longest)
    (refuse (ltb (layout_of to).top (depth_in slip * count_in slip)) RowLong
    (refuse (ltb size (length (turned to slip))) Length fine)))

pub record Turned (from to : ℕ) (slip bytes : List ℕ) (a : Answer) (bytes' : List ℕ) : Type 0 where
  pub answers : a ≡ answer (turn_verdict from to slip (length bytes)) (length (turned to slip))
  pub leaves : bytes' ≡ kept (turn_verdict from to slip (length bytes)) (front (turned to slip) bytes) bytes
