-- What the contracts of the two calls fix: one outcome each, no buffer changed by a refusal, a slip of at most 259 bytes in
-- edition 1 and 484 in edition 2, and numbers that the reader never answers.
use Prim.Native.Nat.{ℕ, ◌+◌, ◌*◌, ◌/◌, ◌≤◌}
use mathlib.Core.Bool.{true, false}
use mathlib.Core.Path.{◌≡◌, refl, sym, ◌∙◌}
use mathlib.Core.List.{List}
use native.Mathlib.Nat.{mul-le-mul, mul-le-mul_right}
use native.Mathlib.Omega.{arith}
use lib.ListN.{length}
use Rattle.defs.specs.Refusal.{number_of, number, answer, kept, Answer, Verdict, fine}
use Rattle.defs.specs.Slip.{layout_of, head_bits, slip_size, slip_of}
use Rattle.defs.specs.Write.{write_verdict, Written}
use Rattle.defs.specs.Read.{read_verdict, Read}
use Rattle.defs.specs.declared.Refusal.{Refusal}
use Rattle.defs.specs.declared.SlipRead.{SlipRead}
use Rattle.theory.proofs.Verdict.{apart, kept_refused, Every}
use Rattle.theory.proofs.Limits.{numbers_top}
use Rattle.theory.proofs.Width.{width_top}
use Rattle.slip.proofs.Answered.{verdict_is, read_no}
use Rattle.plq.specs.Packed.{shown, told}
use Rattle.slip.proofs.Layouts.{laid}
use Rattle.slip.proofs.Writer.{within_limits, within_numbers, writable}
use Rattle.line.proofs.Slips.{readers, read_every}
use Rattle.promises.proofs.RoundTrip.{length_slip}
use Rattle.std.proofs.Common.{Err, Ok, Result}

-- ---- two allowed outcomes are equal

pub written_same : {edition m r k : ℕ} {points w bytes : List ℕ} {a b : Answer} {s t : List ℕ}
    → Written edition m r k points w bytes a s → Written edition m r k points w bytes b t → (a ≡ b) × (s ≡ t)
written_same x y = (cc (x.answers, y.answers), cc (x.leaves, y.leaves))

pub read_same : {bytes points row : List ℕ} {a b : Result SlipRead Refusal} {s t u v : List ℕ}
    → Read bytes points row a s t → Read bytes points row b u v → (a ≡ b) × (s ≡ u) × (t ≡ v)
read_same x y = (cc (x.answers, y.answers), cc (x.leaves_points, y.leaves_points), cc (x.leaves_row, y.leaves_row))

-- ---- a refusal changes no buffer

pub write_refused : {edition m r k : ℕ} {points w bytes : List ℕ} {x : Refusal} {bytes' : List ℕ} → Written edition m r k points w bytes (Err x) bytes' → bytes' ≡ bytes
write_refused t = t.leaves ∙ kept_refused _ _ _ _ _ (sym t.answers)

-- nor does it tell an edition or numbers: in C they are 0
pub read_refused : {bytes points row : List ℕ} {a : Result SlipRead Refusal} {x : Refusal} {points' row' : List ℕ} → Read bytes points row a points' row' → a ≡ Err x
    → (shown a ≡ record { edition = 0; m = 0; r = 0; count = 0; k = 0 }) × (points' ≡ points) × (row' ≡ row)
unfolding kept
read_refused {bytes} {points} {row} {a} {x} t e =
    let v : read_verdict bytes (length points) (length row) ≡ Err x = read_no t x e in
    (rw e refl, t.leaves_points ∙ rw v, t.leaves_row ∙ rw v)

-- ---- the size of a slip

module _ (m r k : ℕ) (points w : List ℕ) (size : ℕ) where
  -- the header, and a byte for each symbol of the longest row and for as many points
  pub slip_top : (edition : ℕ) → write_verdict edition m r k points w size ≡ fine
      → length (slip_of (layout_of edition) m r k points w) ≤ head_bits (layout_of edition) / 8 + 2 * (layout_of edition).top
  unfolding slip_size
  slip_top edition e =
      let L = layout_of edition in
      let x = writable edition m r k points w size e in
      let n = (within_limits L (laid edition) m r k points x.within).numbers in
      let top = numbers_top L.top m r k (length points) (laid edition).top_low (within_numbers L (laid edition) m r k points x.within) in
      let few : length points + length w ≤ 2 * L.top = omega (arith, x.row, top, mul-le-mul_right (length points) n.r_pos) in
      rw length_slip (omega (arith, mul-le-mul {n₁ = length points + length w} {m₁ = m} {n₂ = 2 * L.top} {m₂ = 8} few (width_top m n.width)))

  -- so at most 484 bytes, and in edition 1 at most 259
  pub slip_longest : (edition : ℕ) → write_verdict edition m r k points w size ≡ fine → length (slip_of (layout_of edition) m r k points w) ≤ 484
  slip_longest edition e = omega (arith, slip_top edition e, (laid edition).bytes_top, (laid edition).top_low)

  pub slip_old : write_verdict 1 m r k points w size ≡ fine → length (slip_of (layout_of 1) m r k points w) ≤ 259
  unfolding layout_of head_bits
  slip_old e = slip_top 1 e

-- ---- the reader never answers 2, 5 or 8

number_reads : (v : Verdict) → Every (λ x. readers (number_of x) ≡ true) v → readers (number (answer v 0)) ≡ true
unfolding answer
number_reads (Ok _) h = refl
number_reads (Err x) h = h.of x refl

other : (n k : ℕ) → readers n ≡ true → readers k ≡ false → n ≡ k → ⊥
other n k a b e = apart cc

pub reader_never : {bytes points row : List ℕ} {a : Result SlipRead Refusal} {points' row' : List ℕ} → Read bytes points row a points' row'
    → (number (told a) ≡ 2 → ⊥) × (number (told a) ≡ 5 → ⊥) × (number (told a) ≡ 8 → ⊥)
reader_never {bytes} {points} {row} {a} t =
    let p : readers (number (told a)) ≡ true = rw (verdict_is t) (number_reads _ (read_every (λ x r l. r) bytes (length points) (length row))) in
    (other _ 2 p refl, other _ 5 p refl, other _ 8 p refl)
