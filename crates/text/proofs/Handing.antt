-- A text in front of some bytes, and one that is handed out to a caller's buffer.
use Prim.Native.Nat.{ℕ, ◌+◌, ◌≤◌, ◌<◌}
use mathlib.Core.Path.{◌≡◌, refl, ap, sym, ◌∙◌}
use mathlib.Core.List.{List, [], ◌∷◌, ◌++◌, append_assoc}
use native.Mathlib.Omega.{arith}
use lib.ListN.{length, get_or, take, drop, set, length-append}
use lib.Seq.{set-append_seam, take_at, length-take-le}
use Rattle.std.proofs.lemmas.List.{drop_more}
use borrow.Author.Tests.{lt-ltb, le-ltb}
use Rattle.defs.specs.Refusal.{refuse, answer, kept}
use Rattle.defs.specs.Write.{front}
use Rattle.defs.specs.Text.{text_verdict}
use Rattle.defs.specs.declared.Refusal.TheVariants.{Length}
use Rattle.text.specs.Handed.{Handed}
use Rattle.std.proofs.Common.{Err, Ok}

-- ---- in front of some bytes

pub front_one : (b : ℕ) (old : List ℕ) → 0 < length old → set old 0 b ≡ front (b ∷ []) old
unfolding front
front_one b [] l = absurd (omega arith)
front_one b (x ∷ old) l = refl

pub front_more : (s old : List ℕ) (b : ℕ) → length s < length old → set (front s old) (length s) b ≡ front (s ++ (b ∷ [])) old
unfolding front
front_more s old b l =
    let step : drop (length s) old ≡ get_or old (length s) 0 ∷ drop (length s + 1) old = drop_more old (length s) 0 l in
    let size : length (s ++ (b ∷ [])) ≡ length s + 1 = length-append s (b ∷ []) in
    rw (step, set-append_seam, size) (sym (append_assoc s (b ∷ []) (drop (length s + 1) old)))

-- what is written behind the first n bytes is appended to them
pub take_behind : (n : ℕ) (bytes s old rest : List ℕ) → n ≤ length bytes
    → take (n + length s) (take n bytes ++ (front s old ++ rest)) ≡ take n bytes ++ s
unfolding front
take_behind n bytes s old rest l =
    let size : length (take n bytes ++ s) ≡ n + length s = omega (arith, length-append (take n bytes) s, length-take-le n bytes l) in
    ap (λ (t : List ℕ). take (n + length s) (take n bytes ++ t)) (append_assoc s (drop (length s) old) rest)
    ∙ ap (take (n + length s)) (sym (append_assoc (take n bytes) s (drop (length s) old ++ rest)))
    ∙ take_at (take n bytes ++ s) (drop (length s) old ++ rest) (n + length s) size

-- ---- handed out

pub no_room : (words text : List ℕ) → length text < length words → Handed words text (Err Length) text
unfolding text_verdict refuse answer kept
no_room words text h = record {
  answers = rw (lt-ltb (length text) (length words) h);
  leaves = rw (lt-ltb (length text) (length words) h);
}

pub handed : (words text now : List ℕ) → length words ≤ length text → now ≡ front words text → Handed words text (Ok (length words)) now
unfolding text_verdict refuse answer kept
handed words text now h e = record {
  answers = rw (le-ltb (length text) (length words) h);
  leaves = rw (le-ltb (length text) (length words) h) e;
}
