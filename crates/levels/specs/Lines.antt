-- The first line of a text, what stands behind it, and what the checks of all lines find.
use Rattle.std.specs.Prelude.{ℕ, ◌*◌, ◌^◌, ◌≡◌, cond, not, List, [], ◌∷◌, eqb, length}
use Rattle.defs.specs.Refusal.{refuse, and_then, Verdict, fine}
use Rattle.defs.specs.Levels.{lines, lines_verdict}
use Rattle.defs.specs.declared.Refusal.TheVariants.{Length}

-- the bytes up to the first newline, with it
unfoldable pub head_line : List ℕ → List ℕ
head_line [] = []
head_line (b ∷ s) = cond (eqb b 10) (b ∷ []) (b ∷ head_line s)

unfoldable pub behind : List ℕ → List ℕ
behind [] = []
behind (b ∷ s) = cond (eqb b 10) s (behind s)

-- 17 and 18 on the lines in order, then 7 for their number
unfoldable pub text_checks : ℕ → List ℕ → ℕ → Verdict
text_checks bound text count = and_then (lines_verdict bound 0 (lines text)) (refuse (not (eqb (length (lines text)) count)) Length fine)

-- a text whose lines have passed the checks, and a row of so many chunks
pub record Fillable (text : List ℕ) (q r : ℕ) (row : List ℕ) : Type 0 where
  pub good : lines_verdict (q ^ r) 0 (lines text) ≡ fine
  pub count : length row ≡ r * length (lines text)
