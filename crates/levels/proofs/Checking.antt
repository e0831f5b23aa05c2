-- The checks of a text's lines, one after another.
use Prim.Native.Nat.{ℕ, suc, ◌+◌, ◌≤◌, ◌<◌}
use mathlib.Core.Bool.{true, false}
use mathlib.Core.Path.{◌≡◌, refl, ap, sym, ◌∙◌}
use mathlib.Core.List.{List, [], ◌∷◌}
use native.Mathlib.Numerals.{add-one}
use native.Mathlib.Omega.{arith}
use lib.ListN.{length}
use borrow.Author.Tests.{not-false, lt-leb, le-leb, leb-false, eq-eqb, ne_eqb}
use Rattle.defs.specs.Refusal.{refuse, and_then, fine}
use Rattle.defs.specs.Levels.{lines, written, value_of, level_verdict, lines_verdict}
use Rattle.defs.specs.declared.Refusal.{Refusal}
use Rattle.defs.specs.declared.Refusal.TheVariants.{Length, LevelLine, LevelHigh}
use Rattle.theory.proofs.Verdict.{refuse_fine, then_fine}
use Rattle.levels.specs.Lines.{head_line, behind, text_checks}
use Rattle.levels.proofs.FirstLine.{lines_none, lines_head, behind_short}
use Rattle.std.proofs.Common.{Err}

-- ---- one line

module _ (bound i : ℕ) (line : List ℕ) where
  pub line_bad : written line ≡ false → level_verdict bound i line ≡ Err (LevelLine i)
  unfolding level_verdict refuse
  line_bad e = rw e

  pub line_high : written line ≡ true → bound ≤ value_of line → level_verdict bound i line ≡ Err (LevelHigh i)
  unfolding level_verdict refuse
  line_high e h = rw (e, le-leb bound (value_of line) h)

  pub line_fine : written line ≡ true → value_of line < bound → level_verdict bound i line ≡ fine
  unfolding level_verdict refuse
  line_fine e h = rw (e, lt-leb bound (value_of line) h)

  pub line_known : level_verdict bound i line ≡ fine → (written line ≡ true) × (value_of line < bound)
  unfolding level_verdict
  line_known e =
      let t = refuse_fine _ _ _ e in
      (not-false _ t.0, leb-false bound (value_of line) (refuse_fine _ _ _ t.1).0)

-- ---- all lines

pub good_none : (bound i : ℕ) → lines_verdict bound i [] ≡ fine
unfolding lines_verdict
good_none bound i = refl

module _ (bound i : ℕ) (line : List ℕ) (rest : List (List ℕ)) where
  pub lines_refused : (x : Refusal) → level_verdict bound i line ≡ Err x → lines_verdict bound i (line ∷ rest) ≡ Err x
  unfolding lines_verdict and_then
  lines_refused x e = rw e

  pub lines_passed : level_verdict bound i line ≡ fine → lines_verdict bound i (line ∷ rest) ≡ lines_verdict bound (suc i) rest
  unfolding lines_verdict and_then
  lines_passed e = rw e

  pub good_first : lines_verdict bound i (line ∷ rest) ≡ fine → level_verdict bound i line ≡ fine
  unfolding lines_verdict
  good_first e = (then_fine _ _ e).0

-- whether lines are good does not depend on their numbers
pub good_any : (bound i j : ℕ) (rest : List (List ℕ)) → lines_verdict bound i rest ≡ fine → lines_verdict bound j rest ≡ fine
good_any bound i j [] e = good_none bound j
good_any bound i j (line ∷ rest) e =
    let first = good_first bound i line rest e in
    let known = line_known bound i line first in
    lines_passed bound j line rest (line_fine bound j line known.0 known.1)
    ∙ good_any bound (suc i) (suc j) rest (sym (lines_passed bound i line rest first) ∙ e)

-- ---- what is left of a text

-- a line is in front where anything is left
pub lines_some : (s : List ℕ) → 0 < length s → lines s ≡ head_line s ∷ lines (behind s)
lines_some [] l = absurd (omega arith)
lines_some (b ∷ s) l = lines_head b s

pub lines_end : (s : List ℕ) → length s ≡ 0 → lines s ≡ []
lines_end [] e = lines_none
lines_end (b ∷ s) e = absurd (omega arith)

-- where some lines of a text have passed, and rest is left; line is the number of the one that begins there
pub record Reached (bound : ℕ) (text rest : List ℕ) (line : ℕ) : Type 0 where
  pub few : line + length rest ≤ length text
  pub verdict_is : lines_verdict bound 0 (lines text) ≡ lines_verdict bound line (lines rest)
  pub count_is : length (lines text) ≡ line + length (lines rest)

module _ (bound : ℕ) (text : List ℕ) where
  module _ (rest : List ℕ) (line : ℕ) (h : Reached bound text rest line) where
    module _ (l : 0 < length rest) where
      pub reached_bad : (x : Refusal) (count : ℕ) → level_verdict bound line (head_line rest) ≡ Err x → Err x ≡ text_checks bound text count
      unfolding text_checks and_then
      reached_bad x count e =
          let bad : lines_verdict bound 0 (lines text) ≡ Err x =
          h.verdict_is ∙ ap (lines_verdict bound line) (lines_some rest l) ∙ lines_refused bound line _ _ x e in
          rw bad

      pub reached_more : (next : List ℕ) → level_verdict bound line (head_line rest) ≡ fine → next ≡ behind rest → Reached bound text next (line + 1)
      reached_more next e b = record {
        few = omega (arith, h.few, ap length b, behind_short rest l);
        verdict_is = h.verdict_is ∙ ap (lines_verdict bound line) split ∙ lines_passed bound line _ _ e ∙ rw add-one;
        count_is = omega (arith, h.count_is, ap length split);
      }
        where
          split : lines rest ≡ head_line rest ∷ lines next
          split = lines_some rest l ∙ rw b

    module _ (l : length rest ≡ 0) where
      all_good : lines_verdict bound 0 (lines text) ≡ fine
      all_good = h.verdict_is ∙ ap (lines_verdict bound line) (lines_end rest l) ∙ good_none bound line

      all_counted : length (lines text) ≡ line
      all_counted = omega (arith, h.count_is, ap length (lines_end rest l))

      pub reached_miscounted : (count : ℕ) → (line ≡ count → ⊥) → Err Length ≡ text_checks bound text count
      unfolding text_checks and_then refuse
      reached_miscounted count n = rw (all_good, all_counted, ne_eqb line count n)

      pub reached_last : (count : ℕ) → line ≡ count → fine ≡ text_checks bound text count
      unfolding text_checks and_then refuse
      reached_last count e = rw (all_good, all_counted, eq-eqb line count e)
