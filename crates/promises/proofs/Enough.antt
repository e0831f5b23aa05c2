-- A byte more than the longest slip has decides how a slip is read: what is longer is refused, and by the same number.
use Prim.Native.Nat.{ℕ, ◌+◌, ◌/◌, ◌<◌, ◌≤◌}
use mathlib.Core.Bool.{Bool, true, false, not}
use mathlib.Core.Path.{◌≡◌, refl, sym, ◌∙◌}
use mathlib.Core.List.{List}
use native.Mathlib.Decide.{dec_lt}
use native.Mathlib.Omega.{arith}
use lib.Dec.{ltb}
use lib.ListN.{length, take}
use lib.Seq.{length-take-le, take_all}
use borrow.Author.Tests.{lt-ltb, le-ltb}
use Rattle.defs.specs.Refusal.{refuse, and_then, kept, Verdict, fine}
use Rattle.defs.specs.Limits.{numbers_verdict}
use Rattle.defs.specs.Slip.{is_edition, layout_of, head_bits, slip_size, longest_slip, edition_in, layout_in, width_in, depth_in, count_in, dimension_in, size_in}
use Rattle.defs.specs.Read.{first_verdict_of, head_verdict, read_verdict, reading, Read}
use Rattle.defs.specs.declared.Refusal.TheVariants.{SlipShort, Edition, SlipLong}
use Rattle.defs.specs.declared.Refusal.{Refusal}
use Rattle.defs.specs.declared.SlipRead.{SlipRead}
use Rattle.theory.proofs.Verdict.{apart, refuse_fine, then_fine}
use Rattle.slip.proofs.Reader.{numbers_in, laid_in, header_top}
use Rattle.promises.proofs.Header.{head_kept}
use Rattle.std.proofs.Common.{Err, Ok, Result}

abbrev pub enough_bytes : ℕ
enough_bytes = longest_slip + 1

-- what bytes beyond the longest slip are refused by: 11, 1, 3, 4, 12
long_verdict : ℕ → ℕ → ℕ → ℕ → ℕ → Verdict
long_verdict edition m r k count =
    refuse (not (is_edition edition)) Edition (and_then (numbers_verdict (layout_of edition).top m r k count) (Err SlipLong))

-- past the length, the edition and the length of its header
by_edition : (b : Bool) (u v w : Verdict) → and_then u v ≡ w → and_then (refuse false SlipShort (refuse b Edition (refuse false SlipShort u))) v ≡ refuse b Edition w
unfolding refuse and_then
by_edition true u v w e = refl
by_edition false u v w e = e

module _ (bytes : List ℕ) (long : longest_slip < length bytes) where
  by_numbers : (v : Verdict) → numbers_in bytes ≡ v
      → and_then (and_then v (refuse (ltb (length bytes) (size_in bytes)) SlipShort fine)) (refuse (ltb (size_in bytes) (length bytes)) SlipLong fine)
      ≡ and_then v (Err SlipLong)
  unfolding and_then refuse
  by_numbers (Err x) e = refl
  by_numbers (Ok _) e =
      let top : size_in bytes ≤ longest_slip = header_top bytes e in
      rw (le-ltb (length bytes) (size_in bytes) (omega arith), lt-ltb (size_in bytes) (length bytes) (omega arith))

  head_long : head_verdict bytes ≡ long_verdict (edition_in bytes) (width_in bytes) (depth_in bytes) (dimension_in bytes) (count_in bytes)
  unfolding head_verdict first_verdict_of long_verdict layout_in slip_size head_bits
  head_long =
      let whole = le-ltb (length bytes) (head_bits (layout_in bytes) / 8) (omega (arith, (laid_in bytes).bytes_top)) in
      rw (le-ltb (length bytes) 3 (omega arith), whole) (by_edition _ _ _ _ (by_numbers _ refl))

never_fine : (b : Bool) (v v' : Verdict) → and_then (refuse b Edition (and_then v (Err SlipLong))) v' ≡ refuse b Edition (and_then v (Err SlipLong))
unfolding refuse and_then
never_fine true v v' = refl
never_fine false (Ok _) v' = refl
never_fine false (Err x) v' = refl

read_long : (bytes : List ℕ) → longest_slip < length bytes → (count n : ℕ)
    → read_verdict bytes count n ≡ long_verdict (edition_in bytes) (width_in bytes) (depth_in bytes) (dimension_in bytes) (count_in bytes)
unfolding read_verdict long_verdict
read_long bytes long count n = rw (head_long bytes long) (never_fine _ _ _)

-- THE FIRST 485 BYTES DECIDE: 484, and one more to tell that there is more
pub enough : (bytes : List ℕ) → longest_slip < length bytes → (count n : ℕ) → read_verdict (take enough_bytes bytes) count n ≡ read_verdict bytes count n
unfolding slip_size head_bits
enough bytes long count n =
    let first : longest_slip < length (take enough_bytes bytes) = omega (arith, length-take-le enough_bytes bytes (omega arith)) in
    let h = head_kept enough_bytes bytes (omega arith) (omega (arith, (laid_in bytes).bytes_top)) in
    rw (read_long (take enough_bytes bytes) first count n, read_long bytes long count n, h.edition, h.width, h.depth, h.dimension, h.count)

pub long_refused : (bytes : List ℕ) → longest_slip < length bytes → (count n : ℕ) → read_verdict bytes count n ≡ fine → ⊥
unfolding long_verdict
long_refused bytes long count n e = refused _ _ (sym (read_long bytes long count n) ∙ e)
  where
    refused : (b : Bool) (v : Verdict) → refuse b Edition (and_then v (Err SlipLong)) ≡ fine → ⊥
    refused b v q = apart (cc (then_fine v (Err SlipLong) (refuse_fine b Edition (and_then v (Err SlipLong)) q).1).1)

-- bytes that are refused alike are read alike: answer, edition, numbers and buffers
alike_read : (s t points row : List ℕ) (v : Verdict) → read_verdict s (length points) (length row) ≡ v → read_verdict t (length points) (length row) ≡ v
    → (v ≡ fine → ⊥) → {a : Result SlipRead Refusal} {points' row' : List ℕ} → Read s points row a points' row' → Read t points row a points' row'
unfolding reading kept
alike_read s t points row (Ok _) e f never x = absurd (never refl)
alike_read s t points row (Err y) e f never x = record {
  answers = x.answers ∙ rw (e, f);
  leaves_points = x.leaves_points ∙ rw (e, f);
  leaves_row = x.leaves_row ∙ rw (e, f);
}

module _ (points row : List ℕ) {a : Result SlipRead Refusal} {points' row' : List ℕ} where
  front_read : (bytes : List ℕ)
      → (Read bytes points row a points' row' → Read (take enough_bytes bytes) points row a points' row')
      × (Read (take enough_bytes bytes) points row a points' row' → Read bytes points row a points' row')
  front_read bytes = go (dec_lt longest_slip (length bytes))
    where
      go : Dec (longest_slip < length bytes)
          → (Read bytes points row a points' row' → Read (take enough_bytes bytes) points row a points' row')
          × (Read (take enough_bytes bytes) points row a points' row' → Read bytes points row a points' row')
      go (yes l) =
          let same = enough bytes l (length points) (length row) in
          let never = long_refused bytes l (length points) (length row) in
          (alike_read _ _ points row _ refl same never, alike_read _ _ points row _ same refl never)
      go (no l) = rw (take_all enough_bytes bytes (omega arith)) (λ x. x, λ x. x)

  -- THE FIRST 485 BYTES DECIDE THE READER'S ANSWER, and what it leaves in its buffers
  pub read_decided : (s t : List ℕ) → take enough_bytes s ≡ take enough_bytes t → Read s points row a points' row' → Read t points row a points' row'
  read_decided s t e x = (front_read t).1 (rw e at ((front_read s).0 x))
