-- Every answer that a call may give, but for the numbers of lines, is small enough to be packed.
use Prim.Native.Nat.{ℕ, ◌+◌, ◌/◌, ◌^◌, ◌<◌}
use mathlib.Core.Path.{◌≡◌, refl}
use mathlib.Core.List.{List}
use native.Mathlib.Nat.{mul-le-mul}
use native.Mathlib.Omega.{arith}
use lib.Dec.{eqb, lit<}
use lib.ListN.{length}
use Rattle.defs.specs.Refusal.{place_of, number, detail, answer, Answer, Verdict, fine}
use Rattle.defs.specs.Distance.{radius}
use Rattle.defs.specs.Limits.{deepest, longest}
use Rattle.defs.specs.Encode.{encode_verdict, distance_verdict, distance_answer}
use Rattle.defs.specs.Decode.{Decoded, refused, found, none}
use Rattle.defs.specs.Slip.{head_bits, slip_size, layout_of, width_in}
use Rattle.defs.specs.Write.{write_verdict}
use Rattle.defs.specs.Read.{read_verdict, reading, Read}
use Rattle.defs.specs.Text.{text_verdict}
use Rattle.defs.specs.Line.{Lined}
use Rattle.defs.specs.Turn.{turn_verdict, turned}
use Rattle.defs.specs.Levels.{levels_write_verdict, row_text}
use Rattle.defs.specs.declared.Refusal.{Refusal}
use Rattle.defs.specs.declared.SlipRead.{SlipRead}
use Rattle.theory.proofs.Limits.{inside_known}
use Rattle.theory.proofs.Checks.{decode_known}
use Rattle.theory.proofs.Distance.{distance_agreement}
use Rattle.rows.proofs.Outcome.{distance_rows}
use Rattle.theory.proofs.Width.{width_top}
use Rattle.theory.proofs.Verdict.{then_fine, Every, every_fine, every_plain, every_then}
use Rattle.theory.proofs.Refusals.{encode_every, decode_every, write_every, distance_every}
use Rattle.slip.proofs.Writer.{writable, written_top}
use Rattle.slip.proofs.Refusals.{first_every}
use Rattle.slip.proofs.Reader.{edition_low, Sound, points_few}
use Rattle.line.proofs.Lengths.{refusal_small}
use Rattle.line.proofs.Lines.{line_short}
use Rattle.slip.proofs.Taken.{read_sound}
use Rattle.line.proofs.Slips.{read_every}
use Rattle.turn.proofs.Turning.{turned_top}
use Rattle.levels.proofs.Outcome.{text_fits}
use Rattle.levels.proofs.Refusals.{write_every as levels_every}
use Rattle.plq.specs.Packed.{Narrow}
use Rattle.std.proofs.Common.{Result, Err, Ok}

pub number_small : (a : Answer) → number a < 2 ^ 8
number_small (Ok d) = lit< tt
number_small (Err x) = omega (arith, refusal_small x)

-- ---- the details

-- a refusal whose place has room in a byte; the checks of every call but levels_read end in such
abbrev Small : Refusal → Type 0
Small x = place_of x < 2 ^ 8

small : (x : Refusal) → place_of x < longest → Small x
small x l = omega arith

answer_small : (v : Verdict) (d : ℕ) (a : Answer) → a ≡ answer v d → Every Small v → (v ≡ fine → d < 2 ^ 16) → detail a < 2 ^ 16
unfolding answer
answer_small (Ok _) d a e s h = rw e (h refl)
answer_small (Err x) d a e s h = rw e (omega (arith, s.of x refl))

pub encoded_small : (m r k : ℕ) (points message : List ℕ) (n : ℕ) (a : Answer) → a ≡ answer (encode_verdict m r k points message n) 0 → detail a < 2 ^ 16
encoded_small m r k points message n a e =
    answer_small (encode_verdict m r k points message n) 0 a e (encode_every small m r k points message n) (λ is_fine. lit< tt)

pub decoded_small : {m r k : ℕ} {points w message depth : List ℕ} {a : Answer} {message' depth' : List ℕ}
    → Decoded m r k points w message depth a message' depth' → detail a < 2 ^ 16
unfolding radius
decoded_small {m} {r} {k} {points} {w} {message} {depth} (refused x v e _ _) =
    rw e (omega (arith, (decode_every small m r k points w (length message) (length depth)).of x v))
decoded_small {m} {r} {k} {points} {w} (found f v near e _ _) =
    let inside = (decode_known m r k points w _ _ v).0 in
    rw e (omega (arith, near.within, (inside_known m r k points inside).numbers.row_top))
decoded_small (none v far e _ _) = rw e (lit< tt)

-- no distance is more than the symbols of its chunks
pub distance_detail : (r : ℕ) (u w : List ℕ) (a : Answer) → a ≡ distance_answer r u w → detail a < 2 ^ 16
unfolding distance_answer
distance_detail r u w a e =
    answer_small (distance_verdict r (length u) (length w)) _ a e (distance_every small r (length u) (length w))
    (λ is_fine. let rows = distance_rows r u w is_fine in
    omega (
      arith,
      distance_agreement r (length u / r) u w,
      mul-le-mul {n₁ = r} {m₁ = length u / r} {n₂ = deepest} {m₂ = longest} rows.depth rows.few,
    ))

pub written_small : (edition m r k : ℕ) (points w : List ℕ) (n : ℕ) (a : Answer)
    → a ≡ answer (write_verdict edition m r k points w n) (slip_size (layout_of edition) m (length points + length w)) → detail a < 2 ^ 16
unfolding slip_size head_bits
written_small edition m r k points w n a e =
    answer_small (write_verdict edition m r k points w n) _ a e (write_every small m r k points edition w n)
    (λ is_fine. omega (arith, written_top edition m r k points w n (writable edition m r k points w n is_fine)))

line_small : (text : List ℕ) (size : ℕ) → Every Small (text_verdict text size)
unfolding text_verdict
line_small text size = every_plain _ _ _ (lit< tt) every_fine

pub lined_small : {bytes buffer : List ℕ} {a : Answer} {buffer' : List ℕ} → Lined bytes buffer a buffer' → detail a < 2 ^ 16
lined_small {bytes} {buffer} {a} x =
    answer_small (text_verdict x.text (length buffer)) _ a x.answers (line_small x.text (length buffer))
    (λ is_fine. omega (arith, line_short bytes x.text x.is_line))

-- a slip turned into the other edition
turn_every : (from to : ℕ) (slip : List ℕ) (size : ℕ) → Every Small (turn_verdict from to slip size)
unfolding turn_verdict
turn_every from to slip size =
    every_then _ _ (first_every (eqb from) slip (lit< tt) (lit< tt) (lit< tt) (lit< tt) (lit< tt))
    (λ own. every_then _ _ (read_every (λ y r. small y) slip longest longest)
    (λ is_fine. every_plain _ _ _ (lit< tt) (every_plain _ _ _ (lit< tt) every_fine)))

pub turned_small : (from to : ℕ) (slip : List ℕ) (n : ℕ) (a : Answer)
    → a ≡ answer (turn_verdict from to slip n) (length (turned to slip)) → detail a < 2 ^ 16
unfolding turn_verdict slip_size head_bits
turned_small from to slip n a e =
    answer_small (turn_verdict from to slip n) _ a e (turn_every from to slip n)
    (λ is_fine. omega (arith, turned_top to slip (then_fine (read_verdict slip longest longest) _ (then_fine _ _ is_fine).1).0))

-- the text of a row's levels
pub levels_small : (m r : ℕ) (w : List ℕ) (n : ℕ) (a : Answer)
    → a ≡ answer (levels_write_verdict m r w n) (length (row_text m r w)) → detail a < 2 ^ 16
unfolding levels_write_verdict
levels_small m r w n a e =
    answer_small (levels_write_verdict m r w n) _ a e
    (levels_every {P = Small} (lit< tt) (lit< tt) (lit< tt) (λ i l. omega arith) m r w n)
    (λ is_fine. let shape = then_fine _ _ is_fine in omega (arith, text_fits m r w shape.0 (then_fine _ _ shape.1).0))

-- ---- the reader

reading_narrow : (v : Verdict) (bytes : List ℕ) → Every Small v → (v ≡ fine → Sound bytes) → Narrow (reading v bytes)
unfolding reading answer
reading_narrow (Ok _) bytes s h =
    let x = h refl in
    record {
      m_fits = omega (arith, width_top (width_in bytes) x.numbers.width);
      r_fits = omega (arith, x.numbers.r_top);
      count_fits = omega (arith, points_few bytes x);
      k_fits = omega (arith, x.numbers.k_top, x.numbers.row_top);
      detail_fits = lit< tt;
      edition_fits = omega (arith, edition_low bytes);
    }
reading_narrow (Err y) bytes s h = record {
  m_fits = lit< tt;
  r_fits = lit< tt;
  count_fits = lit< tt;
  k_fits = lit< tt;
  detail_fits = s.of y refl;
  edition_fits = lit< tt;
}

pub read_narrow : {bytes points row : List ℕ} {s : Result SlipRead Refusal} {points' row' : List ℕ} → Read bytes points row s points' row' → Narrow s
read_narrow {bytes} {points} {row} x =
    rw x.answers (reading_narrow _ bytes (read_every (λ y r. small y) bytes (length points) (length row)) (read_sound bytes _ _))

-- the calls whose answer is told by an equation
pub ruleset small_answers = (encoded_small, distance_detail, written_small, turned_small, levels_small)
