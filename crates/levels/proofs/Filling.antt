-- A row that is filled with the chunks of a text's levels, line after line.
use Prim.Native.Nat.{ℕ, ◌+◌, ◌*◌, ◌/◌, ◌^◌, ◌<◌, ◌≤◌}
use mathlib.Core.Bool.{true}
use mathlib.Core.Path.{◌≡◌, refl, ap, sym, ◌∙◌}
use mathlib.Core.List.{List, [], ◌∷◌, ◌++◌, map, append-nil, append_assoc}
use native.Mathlib.Decide.{dec_lt}
use native.Mathlib.Nat.{mul-zero, mul-suc, suc-mul, mul-le-mul_right, div-mul-le_self, div-add-mod', mod-lt}
use native.Mathlib.Omega.{arith}
use lib.ListN.{length, take, drop, length-append, length-drop}
use lib.Seq.{take_all, take_at, length-take-le}
use Rattle.std.proofs.Common.{Option, Some}
use Rattle.theory.proofs.Place.{length_tab}
use Rattle.levels.proofs.FirstLine.{behind_short}
use Rattle.std.specs.Option.{unwrap_or}
use Rattle.defs.specs.Refusal.{fine}
use Rattle.defs.specs.Place.{tab}
use Rattle.defs.specs.Levels.{lines, written, value_of, lines_verdict, levels_row}
use Rattle.text.specs.Number.{number_in}
use Rattle.text.specs.declared.number.Number.{Number}
use Rattle.text.proofs.Numbers.{capped_low}
use Rattle.levels.specs.Lines.{head_line, behind}
use Rattle.levels.proofs.Words.{digit_at}
use Rattle.levels.proofs.Checking.{line_known, good_first, good_any, lines_passed, lines_some, lines_end}
use Rattle.levels.proofs.Judging.{value_is, end_inside, line_behind}

no_lines : (rest : List (List ℕ)) → length rest ≡ 0 → rest ≡ []
no_lines [] e = refl
no_lines (line ∷ rest) e = absurd (omega arith)

row_none : (q r : ℕ) → levels_row q r [] ≡ []
unfolding levels_row
row_none q r = refl

row_more : (q r v : ℕ) (s : List ℕ) → levels_row q r (v ∷ s) ≡ tab (digit_at q r v) r ++ levels_row q r s
unfolding levels_row
row_more q r v s = refl

-- the chunks of some lines of a text stand in front of the place at in the row, and rest is left
pub record Filling (text : List ℕ) (q r : ℕ) (at : ℕ) (rest row : List ℕ) : Type 0 where
  pub good : lines_verdict (q ^ r) 0 (lines rest) ≡ fine
  pub within : length rest ≤ length text
  pub room : at + r * length (lines rest) ≡ length row
  pub is : take at row ++ levels_row q r (map value_of (lines rest)) ≡ levels_row q r (map value_of (lines text))

module _ (text : List ℕ) (q r : ℕ) where
  module _ (i : ℕ) (rest row : List ℕ) (h : Filling text q r (i * r) rest row) where
    module _ (some : 0 < r) (l : i < length row / r) where
      pub chunk_room : i * r + r ≤ length row
      chunk_room = omega (arith, mul-le-mul_right r l, div-mul-le_self (length row) r, suc-mul i r)

      rest_some : 0 < length rest
      rest_some = go (dec_lt 0 (length rest))
        where
          go : Dec (0 < length rest) → 0 < length rest
          go (yes k) = k
          go (no k) =
              let none : r * length (lines rest) ≡ 0 = ap (λ (x : List (List ℕ)). r * length x) (lines_end rest (omega arith)) ∙ mul-zero r in
              absurd (omega (arith, h.room, chunk_room))

      module _ (top : ℕ) (highest : top + 1 ≡ q ^ r) (n : Number) (read : n ≡ number_in top rest) where
        abbrev line : List ℕ
        line = head_line rest

        split : lines rest ≡ line ∷ lines (behind rest)
        split = lines_some rest rest_some

        good_lines : lines_verdict (q ^ r) 0 (line ∷ lines (behind rest)) ≡ fine
        good_lines = ap (lines_verdict (q ^ r) 0) (sym split) ∙ h.good

        known : (written line ≡ true) × (value_of line < q ^ r)
        known = line_known (q ^ r) 0 line (good_first (q ^ r) 0 line _ good_lines)

        pub end_low : n.end < length rest
        end_low = end_inside top rest n read known.0

        level_is : n.value ≡ Some (value_of line)
        level_is = value_is top rest n read ∙ sym (capped_low top (value_of line) (omega (arith, known)))

        pub filling_more : (v : ℕ) (chunk rest' row' : List ℕ) → v ≡ unwrap_or n.value 0 → chunk ≡ tab (digit_at q r v) r → rest' ≡ drop (n.end + 1) rest
            → row' ≡ take (i * r) row ++ (chunk ++ drop r (drop (i * r) row)) → Filling text q r ((i + 1) * r) rest' row'
        filling_more v chunk rest' row' f e b w = record {
          good =
              rw next
              (good_any (q ^ r) 1 0 _ (sym (lines_passed (q ^ r) 0 line _ (good_first (q ^ r) 0 line _ good_lines)) ∙ good_lines));
          within = omega (arith, h.within, ap length next, behind_short rest rest_some);
          room = omega (arith, h.room, ap (λ (x : List (List ℕ)). r * length x) split_next, mul-suc r (length (lines rest')), suc-mul i r, ap length w, long);
          is =
              ap (λ (x : List ℕ). x ++ levels_row q r (map value_of (lines rest'))) front
              ∙ append_assoc (take (i * r) row) chunk _ ∙ ap (λ (x : List ℕ). take (i * r) row ++ x) (sym whole) ∙ h.is;
        }
          where
            next : rest' ≡ behind rest
            next = b ∙ line_behind top rest n read known.0

            split_next : lines rest ≡ line ∷ lines rest'
            split_next = rw next split

            level : v ≡ value_of line
            level = f ∙ ap (λ (x : Option ℕ). unwrap_or x 0) level_is

            size : length (take (i * r) row ++ chunk) ≡ (i + 1) * r
            size = omega (arith, length-append (take (i * r) row) chunk, length-take-le (i * r) row (omega (arith, chunk_room)), ap length e, length_tab (digit_at q r v) r, suc-mul i r)

            long : length (take (i * r) row ++ (chunk ++ drop r (drop (i * r) row))) ≡ length row
            long = omega (arith, length-append (take (i * r) row) (chunk ++ drop r (drop (i * r) row)), length-append chunk (drop r (drop (i * r) row)), length-take-le (i * r) row (omega (arith, chunk_room)), ap length e, length_tab (digit_at q r v) r, length-drop r (drop (i * r) row), length-drop (i * r) row, chunk_room)

            front : take ((i + 1) * r) row' ≡ take (i * r) row ++ chunk
            front =
                ap (take ((i + 1) * r)) (w ∙ sym (append_assoc (take (i * r) row) chunk (drop r (drop (i * r) row))))
                ∙ take_at (take (i * r) row ++ chunk) (drop r (drop (i * r) row)) ((i + 1) * r) size

            whole : levels_row q r (map value_of (lines rest)) ≡ chunk ++ levels_row q r (map value_of (lines rest'))
            whole = rw (split, row_more q r (value_of line) (map value_of (lines (behind rest))), ← level, ← e, ← next) refl

    pub filling_last : 0 < r → length row / r ≡ i → row ≡ levels_row q r (map value_of (lines text))
    filling_last some e = rw (none, row_none q r, append-nil (take (i * r) row), take_all (i * r) row (omega (arith, h.room, ap (λ (x : ℕ). r * x) none_left, mul-zero r))) at h.is
      where
        none_left : length (lines rest) ≡ 0
        none_left = go (dec_lt 0 (length (lines rest)))
          where
            go : Dec (0 < length (lines rest)) → length (lines rest) ≡ 0
            go (yes k) = absurd (omega (arith, h.room, mul-le-mul_right r k, div-add-mod' (length row) r, mod-lt (length row) some, ap (λ (x : ℕ). x * r) e))
            go (no k) = omega arith

        none : lines rest ≡ []
        none = no_lines (lines rest) none_left
