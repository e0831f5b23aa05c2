-- Levels from the bench (example 18 of the paper): a whole number for each chunk, a text with one to a line, and what
-- the two calls answer.
use Rattle.std.specs.Prelude.{ℕ, suc, ◌*◌, ◌-◌, ◌/◌, ◌%◌, ◌^◌, ◌≡◌, Bool, cond, ◌&&◌, ◌||◌, not, List, [], ◌∷◌, ◌++◌, map, eqb, leb, ltb, length, get_or}
use Rattle.defs.specs.Place.{tab, total}
use Rattle.defs.specs.Distance.{symbol}
use Rattle.defs.specs.Refusal.{refuse, and_then, answer, kept, Answer, Verdict, fine}
use Rattle.defs.specs.Limits.{is_width}
use Rattle.defs.specs.Encode.{symbols_verdict, distance_verdict}
use Rattle.defs.specs.Write.{front}
use Rattle.defs.specs.Text.{decimal, digit_count, value_from, text_verdict}
use Rattle.defs.specs.declared.Refusal.TheVariants.{Field, Length, LevelLine, LevelHigh}

-- the level of a chunk u, with q = 2 ^ m: the sum of symbol j times q ^ (r - 1 - j)
unfoldable pub level : ℕ → ℕ → (ℕ → ℕ) → ℕ
level q r u = total r (λ j. u j * q ^ (r - 1 - j))

-- the levels of a row's chunks
unfoldable pub levels_of : ℕ → ℕ → List ℕ → List ℕ
levels_of q r w = tab (λ i. level q r (symbol r w i)) (length w / r)

-- the row that has these levels: symbol j of a chunk is the digit at q ^ (r - 1 - j)
unfoldable pub levels_row : ℕ → ℕ → List ℕ → List ℕ
levels_row q r [] = []
levels_row q r (v ∷ s) = tab (λ j. v / q ^ (r - 1 - j) % q) r ++ levels_row q r s

-- each level in decimal, with a newline behind it
unfoldable pub levels_text : List ℕ → List ℕ
levels_text [] = []
levels_text (v ∷ s) = (decimal v ++ (10 ∷ [])) ++ levels_text s

-- a byte in front of the first of some lines
unfoldable pub line_from : ℕ → List (List ℕ) → List (List ℕ)
line_from b [] = (b ∷ []) ∷ []
line_from b (line ∷ rest) = (b ∷ line) ∷ rest

-- the lines of a text, each with the newline that ends it; what stands behind the last newline is a line that has none
unfoldable pub lines : List ℕ → List (List ℕ)
lines [] = []
lines (b ∷ s) = cond (eqb b 10) ((b ∷ []) ∷ lines s) (line_from b (lines s))

-- one digit or more in front, the first no 0 unless it is the only one, and behind them the newline
unfoldable pub written : List ℕ → Bool
written line =
    ltb 0 (digit_count line) && ((not (eqb (get_or line 0 0) 48) || eqb (digit_count line) 1)
    && eqb (get_or line (digit_count line) 0) 10)

abbrev pub value_of : List ℕ → ℕ
value_of line = value_from 0 line

-- 17, then 18, with the number i of the line; bound is q ^ r
unfoldable pub level_verdict : ℕ → ℕ → List ℕ → Verdict
level_verdict bound i line =
    refuse (not (written line)) (LevelLine i) (refuse (leb bound (value_of line)) (LevelHigh i) fine)

-- the first bad line decides; i is the number of the first line
unfoldable pub lines_verdict : ℕ → ℕ → List (List ℕ) → Verdict
lines_verdict bound i [] = fine
lines_verdict bound i (line ∷ rest) = and_then (level_verdict bound i line) (lines_verdict bound (suc i) rest)

-- 1, 2, then 7 for a row length n that is 0, above the longest or no multiple of r: as for the distance of two such rows
unfoldable pub shape_verdict : ℕ → ℕ → ℕ → Verdict
shape_verdict m r n = refuse (not (is_width m)) Field (distance_verdict r n n)

-- then the lines in order, then 7 for their number; n is the length of the row buffer
unfoldable pub levels_read_verdict : ℕ → ℕ → List ℕ → ℕ → Verdict
levels_read_verdict m r text n = and_then (shape_verdict m r n)
    (and_then (lines_verdict ((2 ^ m) ^ r) 0 (lines text)) (refuse (not (eqb (length (lines text)) (n / r))) Length fine))

-- the row of a text
unfoldable pub text_row : ℕ → ℕ → List ℕ → List ℕ
text_row m r text = levels_row (2 ^ m) r (map value_of (lines text))

pub record LevelsRead (m r : ℕ) (text row : List ℕ) (a : Answer) (row' : List ℕ) : Type 0 where
  pub answers : a ≡ answer (levels_read_verdict m r text (length row)) 0
  pub leaves : row' ≡ kept (levels_read_verdict m r text (length row)) (text_row m r text) row

-- the text of a row
unfoldable pub row_text : ℕ → ℕ → List ℕ → List ℕ
row_text m r w = levels_text (levels_of (2 ^ m) r w)

-- 1, 2 and 7 for the row, 8, then 7 for the text; size is the length of the text buffer
unfoldable pub levels_write_verdict : ℕ → ℕ → List ℕ → ℕ → Verdict
levels_write_verdict m r w size =
    and_then (shape_verdict m r (length w)) (and_then (symbols_verdict m w) (text_verdict (row_text m r w) size))

pub record LevelsWritten (m r : ℕ) (w text : List ℕ) (a : Answer) (text' : List ℕ) : Type 0 where
  pub answers : a ≡ answer (levels_write_verdict m r w (length text)) (length (row_text m r w))
  pub leaves : text' ≡ kept (levels_write_verdict m r w (length text)) (front (row_text m r w) text) text
