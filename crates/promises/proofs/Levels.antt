-- Levels from the bench: how their quotients tell the depth of agreement; one outcome for each call, done exactly on valid input; and the
-- two are inverse.
use Prim.Native.Nat.{ℕ, zero, suc, ◌+◌, ◌*◌, ◌-◌, ◌/◌, ◌%◌, ◌^◌, ◌<◌, ◌≤◌}
use mathlib.Core.Bool.{true}
use mathlib.Core.Logic.{◌↔◌}
use mathlib.Core.Path.{◌≡◌, refl, ap, sym, ◌∙◌}
use mathlib.Core.List.{List, [], ◌∷◌, map}
use native.Mathlib.Nat.{mod-lt, mul_comm, div-add-mod'}
use native.Mathlib.Omega.{arith}
use lib.ListN.{length, get_or, take, length-map}
use lib.Pow.{pow_pos}
use borrow.Author.Tests.{le-ltb, ltb-false, eq-eqb, eqb-true, not-false}
use Rattle.defs.specs.Place.{Symbols}
use Rattle.defs.specs.Distance.{symbol, agree, agree_at}
use Rattle.defs.specs.Refusal.{refuse, and_then, answer, kept, Answer, fine}
use Rattle.defs.specs.Write.{front}
use Rattle.defs.specs.Text.{text_verdict}
use Rattle.defs.specs.Levels.{
  level,
  levels_of,
  levels_row,
  levels_text,
  lines,
  written,
  value_of,
  lines_verdict,
  levels_read_verdict,
  text_row,
  LevelsRead,
  row_text,
  levels_write_verdict,
  LevelsWritten,
}
use Rattle.std.proofs.Common.{Err, Ok}
use Rattle.defs.specs.declared.Refusal.{Refusal}
use Rattle.theory.proofs.Agree.{agree_eq, agree_max}
use Rattle.theory.proofs.Checks.{symbols_known, symbols_fine}
use Rattle.theory.proofs.Verdict.{refuse_fine, then_fine, answer_done, kept_refused}
use Rattle.slip.proofs.Front.{take_front}
use Rattle.levels.specs.Base.{room}
use Rattle.levels.proofs.Horner.{level_ext, level_low, level_quotient, level_digit, digits_level}
use Rattle.levels.proofs.Shape.{Shape, shape_known, shape_fine, shape_base}
use Rattle.levels.proofs.Words.{word}
use Rattle.levels.proofs.Checking.{good_none, lines_passed, good_first, line_fine, line_known}
use Rattle.levels.proofs.Writing.{length_levels, level_at}
use Rattle.levels.proofs.Outcome.{text_fits}
use Rattle.promises.proofs.LevelTexts.{text_good, text_values, text_again}
use Rattle.promises.proofs.LevelRows.{length_row, row_low, levels_again, row_again}

-- ---- two levels agree to depth j or more exactly when their quotients by q ^ (r - j) are equal

module _ (q r : ℕ) (pos : 0 < q) where
  pub chunks_agree : (u v : ℕ → ℕ) → ((j : ℕ) → j < r → u j < q) → ((j : ℕ) → j < r → v j < q) → (j : ℕ) → j ≤ r
      → (j ≤ agree r u v) ↔ (level q r u / q ^ (r - j) ≡ level q r v / q ^ (r - j))
  chunks_agree u v low_u low_v j l = (λ h. to h, λ e. back e)
    where
      of_u : level q r u / q ^ (r - j) ≡ level q j u
      of_u = level_quotient q pos r u low_u j l

      of_v : level q r v / q ^ (r - j) ≡ level q j v
      of_v = level_quotient q pos r v low_v j l

      to : j ≤ agree r u v → level q r u / q ^ (r - j) ≡ level q r v / q ^ (r - j)
      to h = of_u ∙ level_ext q j u v (λ i k. agree_eq r u v i (omega arith)) ∙ sym of_v

      back : level q r u / q ^ (r - j) ≡ level q r v / q ^ (r - j) → j ≤ agree r u v
      back e =
          let same : level q j u ≡ level q j v = sym of_u ∙ e ∙ of_v in
          agree_max r j u v l
          (λ i k. sym (level_digit q pos j u (λ x m. low_u x (omega arith)) i k) ∙ ap (λ (x : ℕ). x / q ^ (j - 1 - i) % q) same
          ∙ level_digit q pos j v (λ x m. low_v x (omega arith)) i k)

  -- of two numbers, whose chunks are their digits
  pub levels_agree : (a b : ℕ) → a < q ^ r → b < q ^ r → (j : ℕ) → j ≤ r
      → (j ≤ agree r (λ i. a / q ^ (r - 1 - i) % q) (λ i. b / q ^ (r - 1 - i) % q)) ↔ (a / q ^ (r - j) ≡ b / q ^ (r - j))
  levels_agree a b low_a low_b j l =
      rw (digits_level q r a low_a, digits_level q r b low_b) at
      (chunks_agree (λ i. a / q ^ (r - 1 - i) % q) (λ i. b / q ^ (r - 1 - i) % q) (λ i k. mod-lt _ pos) (λ i k. mod-lt _ pos) j l)

  -- of the chunks i of two rows
  pub rows_agree : (u w : List ℕ) → ((x : ℕ) → get_or u x 0 < q) → ((x : ℕ) → get_or w x 0 < q) → (i : ℕ) → i < length u / r → i < length w / r
      → (j : ℕ) → j ≤ r → (j ≤ agree_at r u w i) ↔ (get_or (levels_of q r u) i 0 / q ^ (r - j) ≡ get_or (levels_of q r w) i 0 / q ^ (r - j))
  unfolding agree_at
  rows_agree u w low_u low_w i l k j h =
      rw (level_at q r u i l, level_at q r w i k) (chunks_agree (symbol r u i) (symbol r w i) (λ x m. low_u _) (λ x m. low_w _) j h)

-- ---- valid texts, in plain facts

-- every line is written as it must be, and its level is below the bound
abbrev pub Valid : ℕ → List (List ℕ) → Type 0
Valid bound rest = (i : ℕ) → i < length rest → (written (get_or rest i []) ≡ true) × (value_of (get_or rest i []) < bound)

lines_known : (bound i : ℕ) (rest : List (List ℕ)) → lines_verdict bound i rest ≡ fine → Valid bound rest
lines_known bound i [] e j l = absurd (omega arith)
lines_known bound i (line ∷ rest) e zero l = line_known bound i line (good_first bound i line rest e)
lines_known bound i (line ∷ rest) e (suc j) l =
    lines_known bound (suc i) rest (sym (lines_passed bound i line rest (good_first bound i line rest e)) ∙ e) j (omega arith)

pub lines_good : (bound i : ℕ) (rest : List (List ℕ)) → Valid bound rest → lines_verdict bound i rest ≡ fine
lines_good bound i [] h = good_none bound i
lines_good bound i (line ∷ rest) h =
    let first = h 0 (omega arith) in
    lines_passed bound i line rest (line_fine bound i line first.0 first.1)
    ∙ lines_good bound (suc i) rest (λ j l. h (suc j) (omega arith))

-- what the reader takes: a text whose lines are the levels of a row of n symbols
pub record LevelText (m r n : ℕ) (text : List ℕ) : Type 0 where
  pub shape : Shape m r n
  pub each : Valid ((2 ^ m) ^ r) (lines text)
  pub count : length (lines text) ≡ n / r

-- what the writer takes
pub record LevelRow (m r : ℕ) (w : List ℕ) : Type 0 where
  pub shape : Shape m r (length w)
  pub symbols : Symbols m w

text_known : (m r : ℕ) (text : List ℕ) (n : ℕ) → levels_read_verdict m r text n ≡ fine → LevelText m r n text
unfolding levels_read_verdict
text_known m r text n e =
    let e₁ = then_fine _ _ e in
    let e₂ = then_fine _ _ e₁.1 in
    record {
      shape = shape_known m r n e₁.0;
      each = lines_known _ 0 (lines text) e₂.0;
      count = eqb-true _ _ (not-false _ (refuse_fine _ _ _ e₂.1).0);
    }

text_fine : (m r : ℕ) (text : List ℕ) (n : ℕ) → LevelText m r n text → levels_read_verdict m r text n ≡ fine
unfolding levels_read_verdict and_then refuse
text_fine m r text n h =
    rw (shape_fine m r n h.shape, lines_good ((2 ^ m) ^ r) 0 (lines text) h.each, eq-eqb (length (lines text)) (n / r) h.count)

row_known : (m r : ℕ) (w : List ℕ) (size : ℕ) → levels_write_verdict m r w size ≡ fine → LevelRow m r w × (length (row_text m r w) ≤ size)
unfolding levels_write_verdict text_verdict
row_known m r w size e =
    let e₁ = then_fine _ _ e in
    let e₂ = then_fine _ _ e₁.1 in
    (record { shape = shape_known m r (length w) e₁.0; symbols = symbols_known m w e₂.0 }, ltb-false size _ (refuse_fine _ _ _ e₂.1).0)

row_fine : (m r : ℕ) (w : List ℕ) (size : ℕ) → LevelRow m r w → length (row_text m r w) ≤ size → levels_write_verdict m r w size ≡ fine
unfolding levels_write_verdict text_verdict and_then refuse
row_fine m r w size h l =
    rw (shape_fine m r (length w) h.shape, symbols_fine m w h.symbols, le-ltb size (length (row_text m r w)) l)

-- ---- the two calls

module _ (m r : ℕ) (text row : List ℕ) where
  pub levels_read_same : (a b : Answer) (s t : List ℕ) → LevelsRead m r text row a s → LevelsRead m r text row b t → (a ≡ b) × (s ≡ t)
  levels_read_same a b s t x y = (x.answers ∙ sym y.answers, x.leaves ∙ sym y.leaves)

  module _ (a : Answer) (row' : List ℕ) (x : LevelsRead m r text row a row') where
    pub levels_read_refused : (y : Refusal) → a ≡ Err y → row' ≡ row
    levels_read_refused y e = x.leaves ∙ kept_refused _ 0 y _ row (sym x.answers ∙ e)

    pub levels_read_done : LevelText m r (length row) text → (a ≡ Ok 0) × (row' ≡ text_row m r text)
    unfolding answer kept
    levels_read_done h = let v = text_fine m r text (length row) h in (x.answers ∙ rw v, x.leaves ∙ rw v)

    pub done_levels_read : (d : ℕ) → a ≡ Ok d → LevelText m r (length row) text
    done_levels_read d e = text_known m r text (length row) (answer_done _ 0 d (sym x.answers ∙ e))

module _ (m r : ℕ) (w text : List ℕ) where
  pub levels_write_same : (a b : Answer) (s t : List ℕ) → LevelsWritten m r w text a s → LevelsWritten m r w text b t → (a ≡ b) × (s ≡ t)
  levels_write_same a b s t x y = (x.answers ∙ sym y.answers, x.leaves ∙ sym y.leaves)

  module _ (a : Answer) (text' : List ℕ) (x : LevelsWritten m r w text a text') where
    pub levels_write_refused : (y : Refusal) → a ≡ Err y → text' ≡ text
    levels_write_refused y e = x.leaves ∙ kept_refused _ _ y _ text (sym x.answers ∙ e)

    pub levels_write_done : LevelRow m r w → length (row_text m r w) ≤ length text → (a ≡ Ok (length (row_text m r w))) × (text' ≡ front (row_text m r w) text)
    unfolding answer kept
    levels_write_done h l = let v = row_fine m r w (length text) h l in (x.answers ∙ rw v, x.leaves ∙ rw v)

    pub done_levels_write : (d : ℕ) → a ≡ Ok d → LevelRow m r w × (length (row_text m r w) ≤ length text)
    done_levels_write d e = row_known m r w (length text) (answer_done _ _ d (sym x.answers ∙ e))

-- no text is longer than 4 bytes for each symbol of the longest row
pub levels_room : (m r : ℕ) (w : List ℕ) → LevelRow m r w → length (row_text m r w) ≤ room
levels_room m r w h = text_fits m r w (shape_fine m r (length w) h.shape) (symbols_fine m w h.symbols)

-- ---- the two are inverse

module _ (m r : ℕ) where
  -- every level of r symbols is a machine word
  small : (n : ℕ) → Shape m r n → (2 ^ m) ^ r ≤ 2 ^ 64
  small n s = word (2 ^ m) r (shape_base m r n s) r (omega arith)

  values_low : (rest : List (List ℕ)) → Valid ((2 ^ m) ^ r) rest → (i : ℕ) → i < length (map value_of rest) → get_or (map value_of rest) i 0 < (2 ^ m) ^ r
  values_low [] h i l = absurd (omega arith)
  values_low (line ∷ rest) h zero l = (h 0 (omega arith)).1
  values_low (line ∷ rest) h (suc i) l = values_low rest (λ j k. h (suc j) (omega arith)) i (omega arith)

  module _ (n : ℕ) (text : List ℕ) (h : LevelText m r n text) where
    pub text_row_lem : LevelRow m r (text_row m r text)
    unfolding text_row
    text_row_lem = record { shape = rw long h.shape; symbols = row_low (2 ^ m) r (pow_pos m) (map value_of (lines text)) }
      where
        long : length (levels_row (2 ^ m) r (map value_of (lines text))) ≡ n
        long =
            length_row (2 ^ m) r (map value_of (lines text)) ∙ ap (λ (x : ℕ). r * x) (length-map (lines text) value_of ∙ h.count)
            ∙ omega (arith, mul_comm r (n / r), div-add-mod' n r, h.shape.whole)

    pub row_text_again : row_text m r (text_row m r text) ≡ text
    unfolding row_text text_row
    row_text_again =
        ap levels_text (levels_again (2 ^ m) r h.shape.r_pos (map value_of (lines text)) (values_low (lines text) h.each))
        ∙ text_again ((2 ^ m) ^ r) (small n h.shape) text (lines_good ((2 ^ m) ^ r) 0 (lines text) h.each)

  module _ (w : List ℕ) (h : LevelRow m r w) where
    low : (i : ℕ) → i < length (levels_of (2 ^ m) r w) → get_or (levels_of (2 ^ m) r w) i 0 < (2 ^ m) ^ r
    low i l =
        rw (level_at (2 ^ m) r w i (omega (arith, length_levels (2 ^ m) r w)))
        (level_low (2 ^ m) r (symbol r w i) (λ j k. h.symbols (i * r + j)))

    values : map value_of (lines (row_text m r w)) ≡ levels_of (2 ^ m) r w
    unfolding row_text
    values = text_values ((2 ^ m) ^ r) (small (length w) h.shape) (levels_of (2 ^ m) r w) low

    pub row_text_lem : LevelText m r (length w) (row_text m r w)
    unfolding row_text
    row_text_lem = record {
      shape = h.shape;
      each = lines_known _ 0 _ (text_good ((2 ^ m) ^ r) (small (length w) h.shape) (levels_of (2 ^ m) r w) low 0);
      count = sym (length-map (lines (row_text m r w)) value_of) ∙ ap length values ∙ length_levels (2 ^ m) r w;
    }

    pub text_row_again : text_row m r (row_text m r w) ≡ w
    unfolding text_row
    text_row_again =
        ap (levels_row (2 ^ m) r) values ∙ row_again (2 ^ m) r h.shape.r_pos (pow_pos m) w h.shape.whole h.symbols

  -- a text that is read, and its row written where there is room: the text again
  pub read_then_write : (text row row' buffer buffer' : List ℕ) (d : ℕ) (b : Answer) → LevelsRead m r text row (Ok d) row'
      → LevelsWritten m r row' buffer b buffer' → length text ≤ length buffer → (b ≡ Ok (length text)) × (buffer' ≡ front text buffer)
  read_then_write text row row' buffer buffer' d b x y l =
      let h = done_levels_read m r text row (Ok d) row' x d refl in
      let is : row' ≡ text_row m r text = (levels_read_done m r text row (Ok d) row' x h).1 in
      let again : row_text m r row' ≡ text = ap (row_text m r) is ∙ row_text_again (length row) text h in
      rw again at
      (levels_write_done m r row' buffer b buffer' y (rw is (text_row_lem (length row) text h)) (omega (arith, ap length again)))

  -- a row that is written, and what was written read into a buffer of its length: the row again
  pub write_then_read : (w buffer buffer' row row' : List ℕ) (d : ℕ) (a : Answer) → LevelsWritten m r w buffer (Ok d) buffer'
      → length row ≡ length w → LevelsRead m r (take d buffer') row a row' → (a ≡ Ok 0) × (row' ≡ w)
  write_then_read w buffer buffer' row row' d a x e y =
      let k = done_levels_write m r w buffer (Ok d) buffer' x d refl in
      let done = levels_write_done m r w buffer (Ok d) buffer' x k.0 k.1 in
      let size : length (row_text m r w) ≡ d = cc done.0 in
      let text : take d buffer' ≡ row_text m r w = ap (take d) done.1 ∙ take_front (row_text m r w) buffer d size in
      let read = levels_read_done m r (take d buffer') row a row' y (rw (text, e) (row_text_lem w k.0)) in
      (read.0, read.1 ∙ ap (text_row m r) text ∙ text_row_again w k.0)
