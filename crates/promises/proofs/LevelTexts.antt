-- A text of levels and its lines: what is written is read back, and what is read is written again.
use Prim.Native.Nat.{ℕ, zero, suc, ◌+◌, ◌-◌, ◌^◌, ◌<◌, ◌≤◌}
use mathlib.Core.Bool.{true, false}
use mathlib.Core.Path.{◌≡◌, refl, ap, sym, subst, ◌∙◌}
use mathlib.Core.List.{List, [], ◌∷◌, ◌++◌, map, append_assoc}
use native.Mathlib.Nat.{lt_of_lt_of_le}
use native.Mathlib.Omega.{arith}
use native.Nat.{ℕᴺ_discrete}
use lib.ListN.{length, get_or, take, drop, length-append, length-take, get_or-append}
use lib.Seq.{get_or-append_seam, drop-append_seam}
use borrow.Author.Tests.{eq-eqb}
use Rattle.defs.specs.Text.{decimal, is_digit, digit_count, value_from}
use Rattle.defs.specs.Levels.{levels_text, lines, written, value_of, lines_verdict}
use Rattle.text.proofs.Numbers.{count_none, value_none}
use Rattle.text.proofs.Back.{
  AllDigits,
  count_all,
  value_all,
  front_all,
  front_value,
  decimal_all,
  decimal_some,
  decimal_value,
  decimal_first,
  decimal_digits,
}
use Rattle.defs.specs.Refusal.{fine}
use Rattle.levels.specs.Lines.{head_line, behind}
use Rattle.levels.proofs.FirstLine.{
  lines_none,
  lines_head,
  head_behind,
  head_value,
  count_within,
  ended_behind,
  ended_head,
  no_zero,
  zero_first,
  written_known,
}
use Rattle.levels.proofs.Checking.{good_none, lines_passed, good_first, line_fine, line_known, lines_some}
use Rattle.levels.proofs.Writing.{line_of, text_none, text_front}

-- ---- a line that is written, in front of a text

newline_other : is_digit 10 ≡ false
unfolding is_digit
newline_other = refl

module _ (v : ℕ) (t : List ℕ) (l : v < 2 ^ 64) where
  abbrev s : List ℕ
  s = line_of v ++ t

  s_is : s ≡ decimal v ++ (10 ∷ t)
  s_is = append_assoc (decimal v) (10 ∷ []) t

  count_is : digit_count s ≡ length (decimal v)
  count_is = ap digit_count s_is ∙ count_all (decimal v) (10 ∷ t) (decimal_all v) ∙ omega (arith, count_none 10 t newline_other)

  stops : get_or s (digit_count s) 0 ≡ 10
  stops = ap (λ (x : ℕ). get_or s x 0) count_is ∙ ap (λ (x : List ℕ). get_or x (length (decimal v)) 0) s_is ∙ get_or-append_seam (decimal v) 10 t 0

  first_is : get_or s 0 0 ≡ get_or (decimal v) 0 0
  first_is = ap (λ (x : List ℕ). get_or x 0 0) s_is ∙ get_or-append (decimal v) (10 ∷ t) 0 0 (decimal_some v)

  value_is : value_of (head_line s) ≡ v
  value_is =
      head_value s 0 ∙ ap (value_from 0) s_is ∙ value_all (decimal v) (10 ∷ t) 0 (decimal_all v)
      ∙ value_none 10 t (value_from 0 (decimal v)) newline_other ∙ decimal_value v l

  line_written : written (head_line s) ≡ true
  line_written = go (ℕᴺ_discrete (get_or s 0 0) 48)
    where
      some : 0 < digit_count s
      some = omega (arith, count_is, decimal_some v)

      go : Dec (get_or s 0 0 ≡ 48) → written (head_line s) ≡ true
      go (yes e) = zero_first s some stops e ∙ eq-eqb (digit_count s) 1 (count_is ∙ decimal_first v l (sym first_is ∙ e))
      go (no n) = no_zero s some stops n

  lines_is : lines s ≡ head_line s ∷ lines t
  lines_is =
      lines_some s (omega (arith, length-append (line_of v) t, length-append (decimal v) (10 ∷ []), decimal_some v))
      ∙ ap (λ (x : List ℕ). head_line s ∷ lines x) rest
    where
      long : suc (digit_count s) ≡ length (line_of v)
      long = omega (arith, count_is, length-append (decimal v) (10 ∷ []))

      rest : behind s ≡ t
      rest = ended_behind s stops ∙ ap (λ (x : ℕ). drop x s) long ∙ drop-append_seam (line_of v) t

-- ---- what is written is read back

module _ (bound : ℕ) (word : bound ≤ 2 ^ 64) where
  pub text_good : (s : List ℕ) → ((i : ℕ) → i < length s → get_or s i 0 < bound) → (i : ℕ) → lines_verdict bound i (lines (levels_text s)) ≡ fine
  text_good [] h i = rw (text_none, lines_none) (good_none bound i)
  text_good (v ∷ s) h i =
      let low : v < bound = h 0 (omega arith) in
      let fits : v < 2 ^ 64 = lt_of_lt_of_le low word in
      let is_fine = line_fine bound i (head_line (line_of v ++ levels_text s)) (line_written v (levels_text s) fits) (rw (value_is v (levels_text s) fits) low) in
      ap (λ (x : List ℕ). lines_verdict bound i (lines x)) (text_front v s) ∙ ap (lines_verdict bound i) (lines_is v (levels_text s) fits)
      ∙ lines_passed bound i _ _ is_fine ∙ text_good s (λ j k. h (suc j) (omega arith)) (suc i)

  pub text_values : (s : List ℕ) → ((i : ℕ) → i < length s → get_or s i 0 < bound) → map value_of (lines (levels_text s)) ≡ s
  text_values [] h = rw (text_none, lines_none)
  text_values (v ∷ s) h =
      let fits : v < 2 ^ 64 = lt_of_lt_of_le (h 0 (omega arith)) word in
      ap (λ (x : List ℕ). map value_of (lines x)) (text_front v s) ∙ ap (λ (x : List (List ℕ)). map value_of x) (lines_is v (levels_text s) fits)
      ∙ cc (value_is v (levels_text s) fits, text_values s (λ j k. h (suc j) (omega arith)))

-- ---- what is read is written again

-- a line that is written as it must be is what is written of its number
line_again : (b : ℕ) (s : List ℕ) → written (head_line (b ∷ s)) ≡ true → value_of (head_line (b ∷ s)) < 2 ^ 64
    → line_of (value_of (head_line (b ∷ s))) ≡ head_line (b ∷ s)
line_again b s w l =
    let known = written_known (b ∷ s) w in
    let k = digit_count (b ∷ s) in
    let e : k ≡ suc (k - 1) = omega (arith, known.0) in
    let front : take k (b ∷ s) ≡ b ∷ take (k - 1) s = ap (λ (x : ℕ). take x (b ∷ s)) e in
    let value : value_of (head_line (b ∷ s)) ≡ value_from 0 (b ∷ take (k - 1) s) =
    head_value (b ∷ s) 0 ∙ sym (front_value (b ∷ s) 0) ∙ ap (value_from 0) front in
    let number : decimal (value_from 0 (b ∷ take (k - 1) s)) ≡ b ∷ take (k - 1) s =
    decimal_digits b (take (k - 1) s) (subst AllDigits front (front_all (b ∷ s)))
    (λ z. omega (arith, known.2 z, length-take (k - 1) s)) (rw value at l) in
    ap (λ (x : ℕ). line_of x) value ∙ ap (λ (x : List ℕ). x ++ (10 ∷ [])) (number ∙ sym front) ∙ sym (ended_head (b ∷ s) known.1)

-- a line that is written as it must be has a digit and a newline
pub behind_shorter : (t : List ℕ) → written (head_line t) ≡ true → length (behind t) + 2 ≤ length t
behind_shorter t w =
    omega (
      arith,
      ap length (head_behind t),
      length-append (head_line t) (behind t),
      ap length (ended_head t (written_known t w).1),
      length-append (take (digit_count t) t) (10 ∷ []),
      length-take (digit_count t) t,
      count_within t,
      (written_known t w).0,
    )

module _ (bound : ℕ) (word : bound ≤ 2 ^ 64) where
  again : (n : ℕ) (text : List ℕ) → length text ≤ n → (i : ℕ) → lines_verdict bound i (lines text) ≡ fine → levels_text (map value_of (lines text)) ≡ text
  again zero [] h i e = rw (lines_none, text_none)
  again zero (b ∷ s) h i e = absurd (omega arith)
  again (suc n) [] h i e = rw (lines_none, text_none)
  again (suc n) (b ∷ s) h i e =
      let t = b ∷ s in
      let split = lines_head b s in
      let good : lines_verdict bound i (head_line t ∷ lines (behind t)) ≡ fine = ap (lines_verdict bound i) (sym split) ∙ e in
      let is_fine = good_first bound i (head_line t) (lines (behind t)) good in
      let known = line_known bound i (head_line t) is_fine in
      let line = line_again b s known.0 (lt_of_lt_of_le known.1 word) in
      ap (λ (x : List (List ℕ)). levels_text (map value_of x)) split
      ∙ text_front (value_of (head_line t)) (map value_of (lines (behind t)))
      ∙ cc (line, again n (behind t) (omega (arith, behind_shorter t known.0)) (suc i) (sym (lines_passed bound i _ _ is_fine) ∙ good))
      ∙ head_behind t

  pub text_again : (text : List ℕ) → lines_verdict bound 0 (lines text) ≡ fine → levels_text (map value_of (lines text)) ≡ text
  text_again text e = again (length text) text (omega arith) 0 e
