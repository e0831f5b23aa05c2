-- What is known of every outcome of the call: there is one, the first 485 bytes decide it, a refusal changes no buffer, and a buffer
-- of 6 bytes for each symbol of the longest row and 8 has room for it.
use Prim.Native.Nat.{ℕ, ◌<◌, ◌≤◌}
use mathlib.Core.Path.{◌≡◌, sym, ◌∙◌}
use mathlib.Core.List.{List}
use native.Mathlib.Decide.{dec_lt}
use native.Mathlib.Omega.{arith}
use lib.ListN.{length, take}
use lib.Seq.{take_all}
use borrow.Author.Tests.{le-ltb}
use Rattle.defs.specs.Refusal.{refuse, answer, Answer, fine}
use Rattle.defs.specs.Limits.{longest}
use Rattle.defs.specs.Slip.{longest_slip}
use Rattle.defs.specs.Read.{read_verdict}
use Rattle.defs.specs.Text.{text_verdict}
use Rattle.defs.specs.Line.{RowLine, decoded, Line, refused, read, Lined}
use Rattle.defs.specs.declared.Refusal.{Refusal}
use Rattle.theory.proofs.Verdict.{apart, kept_refused}
use Rattle.line.specs.Text.{room}
use Rattle.line.proofs.Lines.{line_short}
use Rattle.promises.proofs.Decode.{decode_same_line}
use Rattle.promises.proofs.Enough.{enough_bytes, enough, long_refused}
use Rattle.std.proofs.Common.{Err, Ok}

-- ---- one outcome

row_unique : (m r k : ℕ) (points w t t' : List ℕ) → RowLine m r k points w t → RowLine m r k points w t' → t ≡ t'
row_unique m r k points w t t' (decoded _ _ _ _ _ p q d e) (decoded _ _ _ _ _ p' q' d' e') =
    e ∙ decode_same_line m r k points w (p ∙ sym p') (q ∙ sym q') d d' ∙ sym e'

pub line_unique : (bytes t t' : List ℕ) → Line bytes t → Line bytes t' → t ≡ t'
line_unique bytes t t' (refused x v e) (refused y v' e') = cc
line_unique bytes t t' (refused x v e) (read v' row) = absurd (apart cc)
line_unique bytes t t' (read v row) (refused x v' e) = absurd (apart cc)
line_unique bytes t t' (read v row) (read v' row') = row_unique _ _ _ _ _ t t' row row'

pub lined_unique : (bytes buffer : List ℕ) (a a' : Answer) (b b' : List ℕ) → Lined bytes buffer a b → Lined bytes buffer a' b' → (a ≡ a') × (b ≡ b')
lined_unique bytes buffer a a' b b' u v =
    let e = line_unique bytes u.text v.text u.is_line v.is_line in
    (cc (u.answers, v.answers), cc (u.leaves, v.leaves))

-- ---- the first 485 bytes decide

-- bytes that are refused alike have the same line
alike : (s t text : List ℕ) → read_verdict s longest longest ≡ read_verdict t longest longest → (read_verdict s longest longest ≡ fine → ⊥)
    → Line s text → Line t text
alike s t text e never (refused x v q) = refused x (sym e ∙ v) q
alike s t text e never (read v row) = absurd (never v)

front_line : (bytes text : List ℕ) → (Line bytes text → Line (take enough_bytes bytes) text) × (Line (take enough_bytes bytes) text → Line bytes text)
front_line bytes text = go (dec_lt longest_slip (length bytes))
  where
    go : Dec (longest_slip < length bytes) → (Line bytes text → Line (take enough_bytes bytes) text) × (Line (take enough_bytes bytes) text → Line bytes text)
    go (yes l) =
        let same = enough bytes l longest longest in (
          alike _ _ text (sym same) (long_refused bytes l longest longest),
          alike _ _ text same (λ e. long_refused bytes l longest longest (sym same ∙ e)),
        )
    go (no l) = rw (take_all enough_bytes bytes (omega arith)) (λ x. x, λ x. x)

pub line_decided : (s t text : List ℕ) → take enough_bytes s ≡ take enough_bytes t → Line s text → Line t text
line_decided s t text e x = (front_line t text).1 (rw e at ((front_line s text).0 x))

pub lined_decided : (s t buffer : List ℕ) (a : Answer) (b : List ℕ) → take enough_bytes s ≡ take enough_bytes t → Lined s buffer a b → Lined t buffer a b
lined_decided s t buffer a b e u = record {
  text = u.text;
  is_line = line_decided s t u.text e u.is_line;
  answers = u.answers;
  leaves = u.leaves;
}

-- ---- what the two answers say of the buffer that is left

pub refused_keeps : (bytes buffer : List ℕ) (x : Refusal) (b : List ℕ) → Lined bytes buffer (Err x) b → b ≡ buffer
refused_keeps bytes buffer x b u = u.leaves ∙ kept_refused _ _ x _ buffer (sym u.answers)

-- with this much room the call is done
pub done : (bytes buffer : List ℕ) (a : Answer) (b : List ℕ) → room ≤ length buffer → (u : Lined bytes buffer a b) → a ≡ Ok (length u.text)
unfolding text_verdict refuse answer
done bytes buffer a b h u =
    u.answers ∙ rw (le-ltb (length buffer) (length u.text) (omega (arith, line_short bytes u.text u.is_line)))
