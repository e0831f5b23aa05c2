-- The ways out of the two calls, in their order.
use Prim.Native.Nat.{ℕ, ◌*◌, ◌/◌, ◌^◌, ◌≤◌}
use mathlib.Core.Path.{◌≡◌, ap}
use mathlib.Core.List.{List, map}
use native.Mathlib.Nat.{mul_comm, div-add-mod'}
use native.Mathlib.Omega.{arith}
use lib.ListN.{length}
use borrow.Author.Tests.{eqb-true, not-false}
use Rattle.std.proofs.Common.{Err, Ok}
use Rattle.defs.specs.Refusal.{and_then, answer, kept, Answer, fine}
use Rattle.defs.specs.Encode.{symbols_verdict}
use Rattle.defs.specs.Text.{text_verdict}
use Rattle.defs.specs.Levels.{
  lines,
  value_of,
  levels_row,
  shape_verdict,
  levels_read_verdict,
  text_row,
  LevelsRead,
  row_text,
  levels_write_verdict,
  LevelsWritten,
}
use Rattle.defs.specs.declared.Refusal.{Refusal}
use Rattle.theory.proofs.Checks.{symbols_known}
use Rattle.theory.proofs.Verdict.{refuse_fine, then_fine}
use Rattle.text.specs.Handed.{Handed}
use Rattle.levels.specs.Base.{room, Leveled}
use Rattle.levels.specs.Lines.{text_checks, Fillable}
use Rattle.levels.proofs.Shape.{shape_known, shape_base}
use Rattle.levels.proofs.Writing.{levels_fit}

-- ---- reading

module _ (m r : ℕ) (text row : List ℕ) where
  pub read_shape : (x : Refusal) → shape_verdict m r (length row) ≡ Err x → LevelsRead m r text row (Err x) row
  unfolding levels_read_verdict and_then answer kept
  read_shape x e = record { answers = rw e; leaves = rw e }

  module _ (is_fine : shape_verdict m r (length row) ≡ fine) where
    passed : levels_read_verdict m r text (length row) ≡ text_checks ((2 ^ m) ^ r) text (length row / r)
    unfolding levels_read_verdict and_then text_checks
    passed = rw is_fine

    pub read_lines : (x : Refusal) → text_checks ((2 ^ m) ^ r) text (length row / r) ≡ Err x → LevelsRead m r text row (Err x) row
    unfolding answer kept
    read_lines x e = record { answers = rw (passed, e); leaves = rw (passed, e) }

    module _ (good : text_checks ((2 ^ m) ^ r) text (length row / r) ≡ fine) where
      pub fillable : Fillable text (2 ^ m) r row
      unfolding text_checks
      fillable =
          let e = then_fine _ _ good in
          let count : length (lines text) ≡ length row / r = eqb-true _ _ (not-false _ (refuse_fine _ _ _ e.1).0) in
          record {
            good = e.0;
            count = omega (arith, div-add-mod' (length row) r, (shape_known m r (length row) is_fine).whole, mul_comm r (length row / r), ap (λ (x : ℕ). r * x) count);
          }

      pub read_done : (row' : List ℕ) → row' ≡ levels_row (2 ^ m) r (map value_of (lines text)) → LevelsRead m r text row (Ok 0) row'
      unfolding answer kept text_row
      read_done row' e = record { answers = rw (passed, good); leaves = rw (passed, good) e }

-- ---- writing

module _ (m r : ℕ) (w text : List ℕ) where
  pub write_shape : (x : Refusal) → shape_verdict m r (length w) ≡ Err x → LevelsWritten m r w text (Err x) text
  unfolding levels_write_verdict and_then answer kept
  write_shape x e = record { answers = rw e; leaves = rw e }

  module _ (is_fine : shape_verdict m r (length w) ≡ fine) where
    pub write_symbol : (x : Refusal) → symbols_verdict m w ≡ Err x → LevelsWritten m r w text (Err x) text
    unfolding levels_write_verdict and_then answer kept
    write_symbol x e = record { answers = rw (is_fine, e); leaves = rw (is_fine, e) }

    module _ (symbols : symbols_verdict m w ≡ fine) where
      written_passed : levels_write_verdict m r w (length text) ≡ text_verdict (row_text m r w) (length text)
      unfolding levels_write_verdict and_then
      written_passed = rw (is_fine, symbols)

      pub write_done : (a : Answer) (text' : List ℕ) → Handed (row_text m r w) text a text' → LevelsWritten m r w text a text'
      write_done a text' h = record {
        answers = rw written_passed h.answers;
        leaves = rw written_passed h.leaves;
      }

module _ (m r : ℕ) (w : List ℕ) (is_fine : shape_verdict m r (length w) ≡ fine) (symbols : symbols_verdict m w ≡ fine) where
  pub leveled : Leveled m r w
  leveled =
      let s = shape_known m r (length w) is_fine in
      record { symbols = symbols_known m w symbols; whole = s.whole; short = s.n_top }

  -- no text is longer than 4 bytes for each symbol of the longest row
  pub text_fits : length (row_text m r w) ≤ room
  unfolding row_text
  text_fits =
      let s = shape_known m r (length w) is_fine in
      levels_fit (2 ^ m) r w (shape_base m r (length w) s) (symbols_known m w symbols) s.n_top
