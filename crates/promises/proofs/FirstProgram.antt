-- The first program, which knows edition 1 alone, refuses a slip of edition 2 with 11 and shows no row.
use Prim.Native.Nat.{ℕ, ◌+◌, ◌*◌, ◌/◌, ◌≤◌}
use mathlib.Core.Bool.{Bool, true, false, not}
use mathlib.Core.Path.{◌≡◌, refl, sym, ◌∙◌}
use mathlib.Core.List.{List, [], ◌∷◌}
use lib.Dec.{eqb, ltb}
use native.Mathlib.Omega.{arith}
use lib.ListN.{length, take, drop, length-take, take-append-drop}
use borrow.Author.Tests.{le-ltb, eqb-true}
use Rattle.defs.specs.Refusal.{refuse, and_then, kept, Verdict, fine}
use Rattle.defs.specs.Limits.{numbers_verdict}
use Rattle.defs.specs.Slip.{all_bits, number_at, layout_of, head_bits, slip_size, edition_in, layout_in, width_in, depth_in, count_in, dimension_in, size_in}
use Rattle.defs.specs.Write.{Written}
use Rattle.defs.specs.Read.{first_verdict_of, first_verdict}
use Rattle.defs.specs.Text.{digits, decimal}
use Rattle.defs.specs.Line.{heading, line_of}
use Rattle.defs.specs.declared.Refusal.{Refusal}
use Rattle.defs.specs.declared.Refusal.TheVariants.{SlipShort, Edition}
use Rattle.theory.proofs.Verdict.{apart}
use Rattle.promises.proofs.Header.{edition_front}
use Rattle.promises.proofs.Roll.{alone}
use Rattle.promises.proofs.RoundTrip.{written_edition, written_whole}
use Rattle.std.proofs.Common.{Err, Ok}

-- ---- its first checks, as they stood: a header of 24 bits, 7 of them n' - 1 and 7 of them k - 1, and rows of at most 128 symbols

was_count : List ℕ → ℕ
was_count bytes = number_at 7 9 (all_bits 8 bytes) + 1

was_dimension : List ℕ → ℕ
was_dimension bytes = number_at 7 16 (all_bits 8 bytes) + 1

was_size : List ℕ → ℕ
was_size bytes = 3 + ((was_count bytes + depth_in bytes * was_count bytes) * width_in bytes + 7) / 8

pub was_verdict : List ℕ → Verdict
was_verdict bytes =
    refuse (ltb (length bytes) 3) SlipShort
    (refuse (not (eqb (edition_in bytes) 1)) Edition
    (and_then (numbers_verdict 128 (width_in bytes) (depth_in bytes) (was_dimension bytes) (was_count bytes))
    (refuse (ltb (length bytes) (was_size bytes)) SlipShort fine)))

-- they are today's with edition 1 as the one that is known
pub was_first : (bytes : List ℕ) → first_verdict_of (λ e. eqb e 1) bytes ≡ was_verdict bytes
unfolding was_verdict was_size was_count was_dimension first_verdict_of refuse size_in slip_size count_in dimension_in layout_in layout_of head_bits
was_first bytes = by_length (ltb (length bytes) 3) refl
  where
    by_edition : (b : Bool) → eqb (edition_in bytes) 1 ≡ b → ltb (length bytes) 3 ≡ false → first_verdict_of (λ e. eqb e 1) bytes ≡ was_verdict bytes
    by_edition false e l = rw (l, e)
    by_edition true e l =
        let i = eqb-true (edition_in bytes) 1 e in
        rw (l, i, l)

    by_length : (b : Bool) → ltb (length bytes) 3 ≡ b → first_verdict_of (λ e. eqb e 1) bytes ≡ was_verdict bytes
    by_length true l = rw l
    by_length false l = by_edition (eqb (edition_in bytes) 1) refl l

-- and on bytes of edition 1 today's and the first program's are one
pub old_same : (bytes : List ℕ) → edition_in bytes ≡ 1 → first_verdict bytes ≡ was_verdict bytes
unfolding first_verdict_of
old_same bytes e =
    let same : first_verdict bytes ≡ first_verdict_of (λ e. eqb e 1) bytes = rw e in
    same ∙ was_first bytes

-- the line that it printed: that of the refusal by its checks, or where these found nothing that of the row
pub data WasLine (checks : Verdict) (Row : List ℕ → Type 0) (text : List ℕ) : Type 0 where
  refused : (x : Refusal) → checks ≡ Err x → text ≡ line_of (Err x) [] [] → WasLine checks Row text
  read : checks ≡ fine → Row text → WasLine checks Row text

-- ---- bytes of edition 2

module _ (bytes : List ℕ) (long : 3 ≤ length bytes) (e : edition_in bytes ≡ 2) where
  pub was_refused : was_verdict bytes ≡ Err Edition
  unfolding was_verdict refuse
  was_refused = rw (le-ltb (length bytes) 3 long, e)

  -- THE FIRST PROGRAM REFUSES THEM WITH 11, whatever its other checks say: 12, and then 13, 6 and 7
  module _ (then_long then_others : Verdict) where
    abbrev reads_first : Verdict
    reads_first = and_then (and_then (was_verdict bytes) then_long) then_others

    pub first_refused : reads_first ≡ Err Edition
    unfolding and_then
    first_refused = rw was_refused

    -- AND SHOWS NO ROW: no buffer is changed, and the line, that of the refusal, is `11 0` and a newline
    pub first_keeps : (new old : List ℕ) → kept reads_first new old ≡ old
    unfolding kept
    first_keeps new old = rw first_refused

    pub first_line : (Row : List ℕ → Type 0) (text : List ℕ) → WasLine reads_first Row text → text ≡ 49 ∷ 49 ∷ 32 ∷ 48 ∷ 10 ∷ []
    unfolding line_of heading decimal digits
    first_line Row text (refused x e q) =
        let x_is : x ≡ Edition = cc (e, first_refused) in
        q ∙ rw x_is
    first_line Row text (read e row) = absurd (apart (cc (e, first_refused)))

-- so whatever the writer makes of edition 2, and whatever part of it from the front, of 3 bytes or more, the first program took in
pub made_refused : (m r k d : ℕ) (points w bytes bytes' : List ℕ) → Written 2 m r k points w bytes (Ok d) bytes'
    → (n : ℕ) → 3 ≤ n → was_verdict (take n (take d bytes')) ≡ Err Edition
made_refused m r k d points w bytes bytes' t n some =
    let slip = take d bytes' in
    let whole = (alone slip [] (written_whole 2 m r k d points w bytes bytes' t)).long in
    let long : 3 ≤ length (take n slip) = omega (arith, length-take n slip) in
    let edition : edition_in slip ≡ edition_in (take n slip) = rw (take-append-drop n slip) at (edition_front (take n slip) (drop n slip) (omega arith)) in
    was_refused (take n slip) long (sym edition ∙ written_edition 2 m r k d points w bytes bytes' t)
