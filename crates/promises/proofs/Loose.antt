-- 13: the bits that hold nothing are 0 in a slip that is read, and one that is not 0 is refused with 13.
use Prim.Native.Nat.{ℕ, zero, suc, ◌+◌, ◌*◌, ◌-◌, ◌<◌, ◌≤◌}
use mathlib.Core.Logic.{◌⊎◌, inl, inr}
use mathlib.Core.Path.{◌≡◌, refl, sym, ◌∙◌}
use mathlib.Core.List.{List, []}
use native.Mathlib.Omega.{arith}
use lib.Dec.{lit<}
use lib.ListN.{length, get_or}
use borrow.Author.Tests.{lt-ltb}
use Rattle.defs.specs.Refusal.{refuse, and_then, fine}
use Rattle.defs.specs.Slip.{all_bits, number_at, head_bits, layout_in, size_in, spare_in, used_in, fill_in}
use Rattle.defs.specs.Read.{head_verdict, read_verdict}
use Rattle.defs.specs.declared.Refusal.TheVariants.{SlipBits}
use Rattle.slip.proofs.Bits.{all_bits_are, number_nil, bits_told}
use Rattle.slip.proofs.Reader.{sound, read_checked, read_clean}
use Rattle.std.proofs.Common.{Err}

-- a zero bit of the header, 23 in edition 1 and 25 to 31 in edition 2, or one of the fill behind the last symbol
abbrev pub Loose : List ℕ → ℕ → Type 0
Loose bytes p = ((9 + (layout_in bytes).countbits + (layout_in bytes).kbits ≤ p) × (p < head_bits (layout_in bytes)))
    ⊎ ((used_in bytes ≤ p) × (p < 8 * length bytes))

-- a number that is 0 has no bit but 0
zero_bit : (w p : ℕ) (s : List ℕ) (q : ℕ) → p ≤ q → q < p + w → number_at w p (all_bits 8 s) ≡ 0 → get_or (all_bits 8 s) q 0 ≡ 0
zero_bit w p s q l h e =
    let place : p + (q - p) ≡ q = omega arith in
    rw place at (bits_told w p 0 (all_bits 8 s) [] (all_bits_are 8 s) (λ i. lit< tt) (e ∙ sym (number_nil w 0)) (q - p) (omega arith))

module _ (bytes : List ℕ) (whole : head_verdict bytes ≡ fine) where
  loose_zero : spare_in bytes + fill_in bytes ≡ 0 → (p : ℕ) → Loose bytes p → get_or (all_bits 8 bytes) p 0 ≡ 0
  unfolding spare_in fill_in head_bits
  loose_zero clean p (inl l) = zero_bit (layout_in bytes).zerobits (9 + (layout_in bytes).countbits + (layout_in bytes).kbits) bytes p l.0 l.1 (omega arith)
  loose_zero clean p (inr l) = zero_bit (8 * size_in bytes - used_in bytes) (used_in bytes) bytes p l.0 (omega (arith, (sound bytes whole).size)) (omega arith)

  -- ONE THAT IS NOT 0 IS 13: after 12, and before the points are looked at
  pub loose_refused : (p : ℕ) → Loose bytes p → (get_or (all_bits 8 bytes) p 0 ≡ 0 → ⊥) → (count n : ℕ) → read_verdict bytes count n ≡ Err SlipBits
  unfolding read_verdict and_then refuse
  loose_refused p l set count n = rw (whole, lt-ltb 0 (spare_in bytes + fill_in bytes) (some _ refl))
    where
      some : (x : ℕ) → spare_in bytes + fill_in bytes ≡ x → 0 < x
      some zero e = absurd (set (loose_zero e p l))
      some (suc x) e = omega arith

-- A SLIP THAT IS READ HAS 0 IN ALL OF THEM
pub read_zero : (bytes : List ℕ) (count n : ℕ) → read_verdict bytes count n ≡ fine → (p : ℕ) → Loose bytes p → get_or (all_bits 8 bytes) p 0 ≡ 0
read_zero bytes count n e = loose_zero bytes (read_checked bytes count n e) (read_clean bytes count n e)
