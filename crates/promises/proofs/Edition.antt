-- What the edition decides: 11 where it is neither 1 nor 2, 10 where a header of edition 2 is cut, and what the reader says of it.
use Prim.Native.Nat.{ℕ, ◌<◌, ◌≤◌}
use mathlib.Core.Bool.{Bool, true, false, ◌||◌}
use mathlib.Core.Logic.{◌⊎◌, inl, inr}
use mathlib.Core.Path.{◌≡◌, refl, sym, ◌∙◌}
use mathlib.Core.List.{List}
use native.Mathlib.Decide.{dec_lt}
use native.Mathlib.Omega.{arith}
use lib.Dec.{eqb}
use lib.ListN.{length}
use borrow.Author.Tests.{lt-ltb, le-ltb, ltb-false, ne_eqb, eqb-true, eqb-false, not-true}
use Rattle.defs.specs.Refusal.{number_of, refuse, answer, Answer}
use Rattle.defs.specs.Limits.{code_verdict, numbers_verdict}
use Rattle.defs.specs.Encode.{symbols_verdict}
use Rattle.defs.specs.Slip.{is_edition, layout_of, head_bits, edition_in, layout_in}
use Rattle.defs.specs.Write.{write_verdict, Written}
use Rattle.defs.specs.Read.{first_verdict_of, first_verdict, head_verdict, read_verdict, reading, Read}
use Rattle.defs.specs.Roll.{roll_verdict}
use Rattle.defs.specs.declared.Refusal.{Refusal}
use Rattle.defs.specs.declared.Refusal.TheVariants.{Edition, SlipShort}
use Rattle.defs.specs.declared.SlipRead.{SlipRead}
use Rattle.theory.proofs.Verdict.{or_false, answer_refused, Every, every_fine, every_refuse, every_plain, every_then}
use Rattle.theory.proofs.Refusals.{numbers_every}
use Rattle.slip.proofs.Reader.{head_first, read_head}
use Rattle.slip.proofs.Answered.{read_no, read_fine, read_numbers}
use Rattle.slip.proofs.Taken.{read_sound}
use Rattle.roll.proofs.Parts.{others_first}
use Rattle.std.proofs.Common.{Err, Ok, Result}

abbrev pub Neither : ℕ → Type 0
Neither edition = (edition ≡ 1 → ⊥) × (edition ≡ 2 → ⊥)

unknown : (edition : ℕ) → Neither edition → is_edition edition ≡ false
unknown edition n = rw (ne_eqb edition 1 n.0, ne_eqb edition 2 n.1)

neither : (edition : ℕ) → is_edition edition ≡ false → Neither edition
neither edition e =
    let o = or_false (eqb edition 1) (eqb edition 2) e in
    (eqb-false edition 1 o.0, eqb-false edition 2 o.1)

either : (edition : ℕ) → is_edition edition ≡ true → (edition ≡ 1) ⊎ (edition ≡ 2)
either edition e = go (eqb edition 1) refl e
  where
    go : (b : Bool) → eqb edition 1 ≡ b → b || eqb edition 2 ≡ true → (edition ≡ 1) ⊎ (edition ≡ 2)
    go true q h = inl (eqb-true edition 1 q)
    go false q h = inr (eqb-true edition 2 h)

-- what is shown of every refusal of a chain of checks: where it is 11, P holds
abbrev Where11 : Type 0 → Refusal → Type 0
Where11 P x = number_of x ≡ 11 → P

-- ---- the writer

module _ (edition m r k : ℕ) (points w bytes : List ℕ) (a : Answer) (bytes' : List ℕ) (x : Written edition m r k points w bytes a bytes') where
  -- 11 IS TRIED FIRST: whatever the code, the row and the bytes are
  pub write_unknown : Neither edition → a ≡ Err Edition
  unfolding write_verdict refuse answer
  write_unknown n = x.answers ∙ rw (unknown edition n)

  write_every : Every (Where11 (Neither edition)) (write_verdict edition m r k points w (length bytes))
  unfolding write_verdict code_verdict symbols_verdict
  write_every =
      every_refuse _ _ _ (λ t q. neither edition (not-true _ t))
      (λ known. every_then (code_verdict (layout_of edition).top m r k points) _
      (every_then (numbers_verdict (layout_of edition).top m r k (length points)) _
      (numbers_every _ m r k (length points) (λ q. absurd (omega arith)) (λ t q. absurd (omega arith)) (λ q. absurd (omega arith)) (λ q. absurd (omega arith)))
      (λ f. every_plain _ _ _ (λ q. absurd (omega arith)) (every_plain _ _ _ (λ q. absurd (omega arith)) every_fine)))
      (λ f. every_plain _ _ _ (λ q. absurd (omega arith)) (every_plain _ _ _ (λ q. absurd (omega arith)) (every_plain _ _ _ (λ q. absurd (omega arith)) every_fine))))

  -- and 11 says nothing else
  pub unknown_write : a ≡ Err Edition → Neither edition
  unknown_write e = write_every.of Edition (answer_refused _ _ Edition (sym x.answers ∙ e)) refl

-- ---- the reader

-- what the first checks refuse the reader refuses, whatever room it is given
first_read : (bytes : List ℕ) (x : Refusal) → first_verdict bytes ≡ Err x → (count n : ℕ) → read_verdict bytes count n ≡ Err x
first_read bytes x e count n = sym (read_head bytes count n x (sym (head_first bytes x e)))

module _ (bytes : List ℕ) where
  pub first_unknown : 3 ≤ length bytes → Neither (edition_in bytes) → first_verdict bytes ≡ Err Edition
  unfolding first_verdict_of refuse
  first_unknown long n = rw (le-ltb (length bytes) 3 long, unknown (edition_in bytes) n)

  -- 10 straight after 11: whatever else stands in the bytes
  pub first_cut : edition_in bytes ≡ 2 → length bytes < 4 → first_verdict bytes ≡ Err SlipShort
  unfolding first_verdict_of layout_in layout_of head_bits refuse
  first_cut e l = go (dec_lt (length bytes) 3)
    where
      go : Dec (length bytes < 3) → first_verdict bytes ≡ Err SlipShort
      go (yes s) = rw (lt-ltb (length bytes) 3 s)
      go (no s) = rw (le-ltb (length bytes) 3 (omega arith), e, lt-ltb (length bytes) 4 l)

  -- and a roll that begins so is refused so
  pub roll_unknown : 3 ≤ length bytes → Neither (edition_in bytes) → roll_verdict bytes ≡ Err Edition
  roll_unknown long n = sym (others_first bytes (λ e. omega arith)) ∙ first_unknown long n

  pub roll_cut : 0 < length bytes → edition_in bytes ≡ 2 → length bytes < 4 → roll_verdict bytes ≡ Err SlipShort
  roll_cut some e l = sym (others_first bytes (λ e. omega arith)) ∙ first_cut e l

  abbrev Unknown : Type 0
  Unknown = (3 ≤ length bytes) × Neither (edition_in bytes)

  read_every : (count n : ℕ) → Every (Where11 Unknown) (read_verdict bytes count n)
  unfolding read_verdict head_verdict first_verdict_of
  read_every count n =
      every_then (head_verdict bytes) _
      (every_then (first_verdict bytes) _
      (every_refuse _ _ _ (λ t q. absurd (omega arith))
      (λ long. every_refuse _ _ _ (λ t q. (ltb-false (length bytes) 3 long, neither (edition_in bytes) (not-true _ t)))
      (λ known. every_plain _ _ _ (λ q. absurd (omega arith))
      (every_then _ _
      (numbers_every _ _ _ _ _ (λ q. absurd (omega arith)) (λ t q. absurd (omega arith)) (λ q. absurd (omega arith)) (λ q. absurd (omega arith)))
      (λ f. every_plain _ _ _ (λ q. absurd (omega arith)) every_fine)))))
      (λ f. every_plain _ _ _ (λ q. absurd (omega arith)) every_fine))
      (λ f. every_plain _ _ _ (λ q. absurd (omega arith)) (every_plain _ _ _ (λ q. absurd (omega arith)) (every_plain _ _ _ (λ q. absurd (omega arith)) every_fine)))

module _ (bytes points row points' row' : List ℕ) (a : Result SlipRead Refusal) (x : Read bytes points row a points' row') where
  pub refused_by : (y : Refusal) → first_verdict bytes ≡ Err y → a ≡ Err y
  unfolding reading
  refused_by y e = x.answers ∙ rw (first_read bytes y e (length points) (length row))

  pub read_unknown : 3 ≤ length bytes → Neither (edition_in bytes) → a ≡ Err Edition
  read_unknown long n = refused_by Edition (first_unknown bytes long n)

  pub unknown_read : a ≡ Err Edition → (3 ≤ length bytes) × Neither (edition_in bytes)
  unknown_read e = (read_every bytes (length points) (length row)).of Edition (read_no x Edition e) refl

  -- A SLIP OF EDITION 2 UNDER 4 BYTES IS 10, STRAIGHT AFTER 11
  pub read_cut : edition_in bytes ≡ 2 → length bytes < 4 → a ≡ Err SlipShort
  read_cut e l = refused_by SlipShort (first_cut bytes e l)

  -- THE READER SAYS WHICH EDITION IT FOUND, and that is 1 or 2; where it is refused it says none, and 0 in C (`Unpacked.antt:read_unpacked`)
  pub read_says : (s : SlipRead) → a ≡ Ok s → (s.edition ≡ edition_in bytes) × ((s.edition ≡ 1) ⊎ (s.edition ≡ 2))
  unfolding reading
  read_says s done =
      rw (read_numbers x s done)
      (refl, either (edition_in bytes) (read_sound bytes _ _ (read_fine x s done)).known)
