-- What is known of the layout of every edition, and the sizes that follow from it.
use Prim.Native.Nat.{ℕ, ◌*◌, ◌/◌, ◌^◌, ◌<◌, ◌≤◌}
use mathlib.Core.Bool.{Bool, true, false, ◌||◌}
use mathlib.Core.Path.{◌≡◌, refl}
use native.Mathlib.Nat.{mul-le-mul}
use native.Mathlib.Omega.{arith}
use lib.Dec.{eqb}
use borrow.Author.Tests.{eqb-true}
use Rattle.defs.specs.Field.{Width}
use Rattle.defs.specs.Limits.{longest}
use Rattle.defs.specs.Slip.{is_edition, layout_of, head_bits, slip_size, longest_slip}
use Rattle.defs.specs.declared.Layout.{Layout}
use Rattle.theory.proofs.Layouts.{by_layout}
use Rattle.theory.proofs.Verdict.{apart}
use Rattle.theory.proofs.Width.{width_top}
use Rattle.slip.specs.declared.layout.Edition.{Edition}
use Rattle.slip.specs.declared.layout.Edition.TheVariants.{Old, New}
use Rattle.slip.specs.Laid.{Laid}
use Rattle.slip.specs.Edition.{number}

pub laid : (edition : ℕ) → Laid (layout_of edition)
unfolding head_bits
laid e = record {
  edition_low = by_layout (λ L. L.edition < 16) (omega arith) (omega arith) e;
  count_narrow = by_layout (λ L. L.countbits ≤ 8) (omega arith) (omega arith) e;
  k_narrow = by_layout (λ L. L.kbits ≤ 8) (omega arith) (omega arith) e;
  zero_narrow = by_layout (λ L. L.zerobits ≤ 8) (omega arith) (omega arith) e;
  whole = by_layout (λ L. 8 * (head_bits L / 8) ≡ head_bits L) refl refl e;
  bytes_bottom = by_layout (λ L. 3 ≤ head_bits L / 8) (omega arith) (omega arith) e;
  bytes_top = by_layout (λ L. head_bits L / 8 ≤ 4) (omega arith) (omega arith) e;
  top_low = by_layout (λ L. L.top ≤ longest) (omega arith) (omega arith) e;
  count_room = by_layout (λ L. L.top ≤ 2 ^ L.countbits) (omega arith) (omega arith) e;
  k_room = by_layout (λ L. L.top ≤ 2 ^ L.kbits) (omega arith) (omega arith) e;
}

-- the editions are known
pub known_edition : (E : Edition) → is_edition (number E) ≡ true
known_edition Old = refl
known_edition New = refl

-- a known edition is that of its layout
pub edition_own : (edition : ℕ) → is_edition edition ≡ true → (layout_of edition).edition ≡ edition
unfolding layout_of
edition_own e known = go (eqb e 1) (eqb e 2) refl refl known
  where
    go : (a b : Bool) → eqb e 1 ≡ a → eqb e 2 ≡ b → a || b ≡ true → (layout_of e).edition ≡ e
    go true b p q k =
        let i = eqb-true e 1 p in
        rw i
    go false true p q k =
        let i = eqb-true e 2 q in
        rw i
    go false false p q k = absurd (apart cc)

-- no slip is longer than the longest
pub size_top : (L : Layout) → Laid L → (m symbols : ℕ) → Width m → symbols ≤ 2 * longest → slip_size L m symbols ≤ longest_slip
unfolding slip_size head_bits
size_top L laid m symbols w l =
    omega (arith, laid.bytes_top, mul-le-mul {n₁ = symbols} {m₁ = m} {n₂ = 2 * longest} {m₂ = 8} l (width_top m w))
