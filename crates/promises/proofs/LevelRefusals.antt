-- How the two calls on levels refuse: by which numbers, that the first bad line decides, and how large its number is.
use Prim.Native.Nat.{ℕ, zero, suc, ◌+◌, ◌*◌, ◌/◌, ◌%◌, ◌^◌, ◌<◌, ◌≤◌}
use mathlib.Core.Bool.{Bool, true, false, ◌||◌, not}
use mathlib.Core.Logic.{◌⊎◌, inl, inr, ⊎_elim}
use mathlib.Core.Path.{◌≡◌, refl, ap, sym, ◌∙◌}
use mathlib.Core.List.{List, [], ◌∷◌}
use native.Mathlib.Nat.{mod-eq_of_lt, add-zero, add-suc, suc-add}
use native.Mathlib.Omega.{arith}
use lib.Dec.{eqb, leb, lit<}
use lib.ListN.{length, get_or}
use borrow.Author.Tests.{leb-true, ne_eqb, lt-ltb}
use Rattle.defs.specs.Refusal.{number_of, place_of, detail, refuse, and_then, answer, Answer, Verdict, fine}
use Rattle.defs.specs.Encode.{symbols_verdict}
use Rattle.defs.specs.Text.{text_verdict}
use Rattle.defs.specs.Levels.{lines, written, value_of, level_verdict, lines_verdict, shape_verdict, levels_read_verdict, LevelsRead, row_text, levels_write_verdict, LevelsWritten}
use Rattle.defs.specs.declared.Refusal.{Refusal}
use Rattle.defs.specs.declared.Refusal.TheVariants.{Field, Depth, Length, LevelLine, LevelHigh}
use Rattle.theory.proofs.Checks.{symbols_fine}
use Rattle.theory.proofs.Verdict.{apart, answer_refused, Every, every_fine, every_then, every_plain}
use Rattle.levels.specs.Lines.{head_line, behind}
use Rattle.levels.proofs.FirstLine.{lines_none, lines_head}
use Rattle.levels.proofs.Shape.{Shape, shape_fine}
use Rattle.levels.proofs.Checking.{line_bad, line_high, line_fine, line_known, lines_refused, lines_passed, good_none}
use Rattle.levels.proofs.Refusals.{shape_every, read_every, write_every}
use Rattle.promises.proofs.LevelTexts.{behind_shorter}
use Rattle.promises.proofs.Levels.{Valid, lines_good, LevelRow}
use Rattle.std.proofs.Common.{Err, Ok}

-- ---- the numbers

abbrev pub level_reads : ℕ → Bool
level_reads n = eqb n 1 || (eqb n 2 || (eqb n 7 || (eqb n 17 || eqb n 18)))

abbrev pub level_writes : ℕ → Bool
level_writes n = eqb n 1 || (eqb n 2 || (eqb n 7 || eqb n 8))

pub read_numbers : (m r : ℕ) (text row : List ℕ) (x : Refusal) (row' : List ℕ) → LevelsRead m r text row (Err x) row' → level_reads (number_of x) ≡ true
read_numbers m r text row x row' h =
    (read_every {P = λ y. level_reads (number_of y) ≡ true} refl refl refl (λ i. refl) (λ i. refl) m r text (length row)
    ).of x (answer_refused _ 0 x (sym h.answers))

pub write_numbers : (m r : ℕ) (w text : List ℕ) (x : Refusal) (text' : List ℕ) → LevelsWritten m r w text (Err x) text' → level_writes (number_of x) ≡ true
write_numbers m r w text x text' h =
    (write_every {P = λ y. level_writes (number_of y) ≡ true} refl refl refl (λ i l. refl) m r w (length text)
    ).of x (answer_refused _ _ x (sym h.answers))

-- ---- the first bad line decides

-- x is 17 or 18 with the number of a line that is not written as it must be, or whose level is too high
abbrev pub Bad : ℕ → Refusal → ℕ → List ℕ → Type 0
Bad bound x i line = ((x ≡ LevelLine i) × (written line ≡ false)) ⊎ ((x ≡ LevelHigh i) × (written line ≡ true) × (bound ≤ value_of line))

-- it is the first one, those before it being good; i is the number of the first line of all
pub record FirstBad (bound : ℕ) (rest : List (List ℕ)) (i : ℕ) (x : Refusal) : Type 0 where
  pub line : ℕ
  pub within : line < length rest
  pub before : (k : ℕ) → k < line → (written (get_or rest k []) ≡ true) × (value_of (get_or rest k []) < bound)
  pub here : Bad bound x (i + line) (get_or rest line [])

-- one line that is refused
line_here : (bound i : ℕ) (line : List ℕ) (x : Refusal) → level_verdict bound i line ≡ Err x → Bad bound x i line
unfolding level_verdict refuse
line_here bound i line x e = go (written line) refl (leb bound (value_of line)) refl e
  where
    go : (w : Bool) → written line ≡ w → (h : Bool) → leb bound (value_of line) ≡ h → refuse (not w) (LevelLine i) (refuse h (LevelHigh i) fine) ≡ Err x
        → Bad bound x i line
    go false p h q e = inl (cc, p)
    go true p true q e = inr (cc, p, leb-true bound (value_of line) q)
    go true p false q e = absurd (apart cc)

line_place : (bound i : ℕ) (line : List ℕ) (x : Refusal) → level_verdict bound i line ≡ Err x → place_of x ≡ i
line_place bound i line x e = go (line_here bound i line x e)
  where
    go : Bad bound x i line → place_of x ≡ i
    go (inl h) = ap place_of h.0
    go (inr h) = ap place_of h.0

module _ (bound i : ℕ) (x : Refusal) (line : List ℕ) (rest : List (List ℕ)) where
  bad_now : level_verdict bound i line ≡ Err x → FirstBad bound (line ∷ rest) i x
  bad_now e = record {
    line = 0;
    within = omega arith;
    before = λ k l. absurd (omega arith);
    here = rw add-zero (line_here bound i line x e);
  }

  bad_later : level_verdict bound i line ≡ fine → FirstBad bound rest (suc i) x → FirstBad bound (line ∷ rest) i x
  bad_later e b = record { line = suc b.line; within = omega (arith, b.within); before = earlier; here = rw add-suc (rw suc-add at b.here) }
    where
      earlier : (k : ℕ) → k < suc b.line → (written (get_or (line ∷ rest) k []) ≡ true) × (value_of (get_or (line ∷ rest) k []) < bound)
      earlier zero l = line_known bound i line e
      earlier (suc k) l = b.before k (omega arith)

bad_lines : (bound i : ℕ) (x : Refusal) (rest : List (List ℕ)) → lines_verdict bound i rest ≡ Err x → FirstBad bound rest i x
bad_lines bound i x [] e = absurd (apart (let z : fine ≡ Err x = sym (good_none bound i) ∙ e in cc))
bad_lines bound i x (line ∷ rest) e = go (level_verdict bound i line) refl (bad_lines bound (suc i) x rest)
  where
    go : (v : Verdict) → level_verdict bound i line ≡ v → (lines_verdict bound (suc i) rest ≡ Err x → FirstBad bound rest (suc i) x)
        → FirstBad bound (line ∷ rest) i x
    go (Ok _) q ih = bad_later bound i x line rest q (ih (sym (lines_passed bound i line rest q) ∙ e))
    go (Err y) q ih =
        let same : y ≡ x = let z : Err y ≡ Err x = sym (lines_refused bound i line rest y q) ∙ e in cc in
        bad_now bound i x line rest (rw same at q)

-- the reader's refusals: those that are no line's, and those of its lines
by_lines : {P : Refusal → Type 0} (m r : ℕ) (text : List ℕ) (n : ℕ) → ((x : Refusal) → number_of x < 17 → place_of x ≡ 0 → P x)
    → ((x : Refusal) → lines_verdict ((2 ^ m) ^ r) 0 (lines text) ≡ Err x → P x) → Every P (levels_read_verdict m r text n)
unfolding levels_read_verdict
by_lines m r text n plain bad =
    every_then (shape_verdict m r n) _ (shape_every (plain Field (lit< tt) refl) (plain Depth (lit< tt) refl) (plain Length (lit< tt) refl) m r n)
    (λ is_fine. every_then (lines_verdict ((2 ^ m) ^ r) 0 (lines text)) _ (record { of = bad })
    (λ good. every_plain _ _ _ (plain Length (lit< tt) refl) every_fine))

-- 17 and 18 say which line it is
pub first_bad : (m r : ℕ) (text row : List ℕ) (x : Refusal) (row' : List ℕ) → LevelsRead m r text row (Err x) row'
    → (number_of x ≡ 17) ⊎ (number_of x ≡ 18) → FirstBad ((2 ^ m) ^ r) (lines text) 0 x
first_bad m r text row x row' h n =
    (by_lines {P = λ y. (number_of y ≡ 17) ⊎ (number_of y ≡ 18) → FirstBad ((2 ^ m) ^ r) (lines text) 0 y} m r text (length row)
    (λ y l p c. ⊎_elim (λ e. absurd (omega arith)) (λ e. absurd (omega arith)) c) (λ y e c. bad_lines ((2 ^ m) ^ r) 0 y (lines text) e)
    ).of x (answer_refused _ 0 x (sym h.answers)) n

-- and the first bad line does decide
bad_line : (bound i : ℕ) (line : List ℕ) (x : Refusal) → Bad bound x i line → level_verdict bound i line ≡ Err x
bad_line bound i line x (inl h) = line_bad bound i line h.1 ∙ cc h.0
bad_line bound i line x (inr h) = line_high bound i line h.1 h.2 ∙ cc h.0

bad_refused : (bound i : ℕ) (x : Refusal) (l : ℕ) (rest : List (List ℕ)) → l < length rest
    → ((k : ℕ) → k < l → (written (get_or rest k []) ≡ true) × (value_of (get_or rest k []) < bound)) → Bad bound x (i + l) (get_or rest l []) → lines_verdict bound i rest ≡ Err x
bad_refused bound i x l [] w good here = absurd (omega arith)
bad_refused bound i x zero (line ∷ rest) w good here = lines_refused bound i line rest x (bad_line bound i line x (rw add-zero at here))
bad_refused bound i x (suc l) (line ∷ rest) w good here =
    let first = good 0 (omega arith) in
    lines_passed bound i line rest (line_fine bound i line first.0 first.1)
    ∙ bad_refused bound (suc i) x l rest (omega arith) (λ k m. good (suc k) (omega arith)) (rw suc-add (rw add-suc at here))

module _ (m r : ℕ) (text row : List ℕ) (a : Answer) (row' : List ℕ) (h : LevelsRead m r text row a row') (s : Shape m r (length row)) where
  pub bad_decides : (x : Refusal) → FirstBad ((2 ^ m) ^ r) (lines text) 0 x → a ≡ Err x
  unfolding levels_read_verdict and_then answer
  bad_decides x b =
      h.answers ∙ rw (shape_fine m r (length row) s, bad_refused ((2 ^ m) ^ r) 0 x b.line (lines text) b.within b.before b.here)

  -- and where no line is bad, their number
  pub count_decides : Valid ((2 ^ m) ^ r) (lines text) → (length (lines text) ≡ length row / r → ⊥) → a ≡ Err Length
  unfolding levels_read_verdict and_then answer refuse
  count_decides v n =
      h.answers ∙ rw (shape_fine m r (length row) s, lines_good ((2 ^ m) ^ r) 0 (lines text) v, ne_eqb (length (lines text)) (length row / r) n)

-- ---- the other steps, in their order

-- 1, 2 AND 7 FOR THE ROW'S LENGTH before all else, whatever the text
pub read_shape : (m r : ℕ) (text row : List ℕ) {a : Answer} {row' : List ℕ} → LevelsRead m r text row a row'
    → (x : Refusal) → shape_verdict m r (length row) ≡ Err x → a ≡ Err x
unfolding levels_read_verdict and_then answer
read_shape m r text row h x e = h.answers ∙ rw e

module _ (m r : ℕ) (w text : List ℕ) {a : Answer} {text' : List ℕ} (h : LevelsWritten m r w text a text') where
  pub write_shape : (x : Refusal) → shape_verdict m r (length w) ≡ Err x → a ≡ Err x
  unfolding levels_write_verdict and_then answer
  write_shape x e = h.answers ∙ rw e

  -- THEN 8, whatever room there is
  pub write_high : Shape m r (length w) → (x : Refusal) → symbols_verdict m w ≡ Err x → a ≡ Err x
  unfolding levels_write_verdict and_then answer
  write_high s x e = h.answers ∙ rw (shape_fine m r (length w) s, e)

  -- THEN 7 for a short buffer
  pub write_short : LevelRow m r w → length text < length (row_text m r w) → a ≡ Err Length
  unfolding levels_write_verdict text_verdict and_then refuse answer
  write_short l n =
      h.answers
      ∙ rw (shape_fine m r (length w) l.shape, symbols_fine m w l.symbols, lt-ltb (length text) (length (row_text m r w)) n)

-- ---- how large a line's number is

-- each line before it has two bytes or more
line_low : (bound n : ℕ) (t : List ℕ) → length t ≤ n → (i : ℕ) (x : Refusal) → lines_verdict bound i (lines t) ≡ Err x → 2 * place_of x ≤ 2 * i + length t
line_low bound zero [] l i x e = absurd (apart (let z : fine ≡ Err x = sym (ap (lines_verdict bound i) lines_none ∙ good_none bound i) ∙ e in cc))
line_low bound zero (b ∷ s) l i x e = absurd (omega arith)
line_low bound (suc n) [] l i x e = absurd (apart (let z : fine ≡ Err x = sym (ap (lines_verdict bound i) lines_none ∙ good_none bound i) ∙ e in cc))
line_low bound (suc n) (b ∷ s) l i x e = go (level_verdict bound i (head_line (b ∷ s))) refl (line_low bound n (behind (b ∷ s)))
  where
    now : lines_verdict bound i (head_line (b ∷ s) ∷ lines (behind (b ∷ s))) ≡ Err x
    now = ap (lines_verdict bound i) (sym (lines_head b s)) ∙ e

    go : (v : Verdict) → level_verdict bound i (head_line (b ∷ s)) ≡ v
        → (length (behind (b ∷ s)) ≤ n → (i : ℕ) (x : Refusal) → lines_verdict bound i (lines (behind (b ∷ s))) ≡ Err x → 2 * place_of x ≤ 2 * i + length (behind (b ∷ s)))
        → 2 * place_of x ≤ 2 * i + length (b ∷ s)
    go (Ok _) q ih =
        let shorter = behind_shorter (b ∷ s) (line_known bound i (head_line (b ∷ s)) q).0 in
        omega (arith, ih (omega arith) (suc i) x (sym (lines_passed bound i _ _ q) ∙ now))
    go (Err y) q ih =
        let same : y ≡ x = let z : Err y ≡ Err x = sym (lines_refused bound i _ _ y q) ∙ now in cc in
        omega (arith, line_place bound i (head_line (b ∷ s)) x (rw same at q))

detail_low : (v : Verdict) (n : ℕ) → Every (λ x. 2 * place_of x ≤ n) v → 2 * detail (answer v 0) ≤ n
unfolding answer
detail_low (Ok _) n h = omega arith
detail_low (Err x) n h = h.of x refl

pub line_number : (m r : ℕ) (text row : List ℕ) (a : Answer) (row' : List ℕ) → LevelsRead m r text row a row' → 2 * detail a ≤ length text
line_number m r text row a row' h =
    rw h.answers
    (detail_low _ (length text)
    (by_lines m r text (length row) (λ x l p. omega arith) (λ x e. omega (arith, line_low ((2 ^ m) ^ r) (length text) text (omega arith) 0 x e))))

-- so the word for C has all of it, for every text below 2 ^ 57 bytes
pub line_kept : (m r : ℕ) (text row : List ℕ) (a : Answer) (row' : List ℕ) → LevelsRead m r text row a row' → length text < 2 ^ 57
    → detail a % 2 ^ 56 ≡ detail a
line_kept m r text row a row' h l = mod-eq_of_lt {m = 2 ^ 56} (omega (arith, line_number m r text row a row' h))
