-- What the header and the size of a slip may be refused by: 10, 11, 1, 3 and 4.
use Prim.Native.Nat.{ℕ, ◌<◌, ◌≤◌}
use mathlib.Core.Bool.{Bool, ◌||◌, true, false}
use mathlib.Core.Path.{◌≡◌}
use mathlib.Core.List.{List}
use native.Mathlib.Omega.{arith}
use lib.Dec.{eqb, ltb}
use borrow.Author.Tests.{ne_eqb, le-ltb}
use Rattle.defs.specs.Limits.{deepest}
use Rattle.defs.specs.Slip.{all_bits, depth_in}
use Rattle.defs.specs.Read.{first_verdict_of}
use Rattle.defs.specs.declared.Refusal.{Refusal}
use Rattle.defs.specs.declared.Refusal.TheVariants.{Field, Points, Dimension, SlipShort, Edition}
use Rattle.theory.proofs.Verdict.{apart, Every, every_fine, every_plain, every_then}
use Rattle.theory.proofs.Refusals.{numbers_every}
use Rattle.slip.proofs.Bits.{all_bits_are, number_below}

-- three bits hold no r - 1 outside the limits
depth_inside : (bytes : List ℕ) → (0 < depth_in bytes) × (depth_in bytes ≤ deepest)
unfolding depth_in
depth_inside bytes = omega (arith, number_below 3 6 (all_bits 8 bytes) (all_bits_are 8 bytes))

never_deep : (r : ℕ) → 0 < r → r ≤ deepest → eqb r 0 || ltb deepest r ≡ true → ⊥
never_deep r l h e =
    let q : false ≡ true = rw (ne_eqb r 0 (omega arith), le-ltb deepest r h) at e in
    apart cc

pub first_every : {P : Refusal → Type 0} (known : ℕ → Bool) (bytes : List ℕ) → P SlipShort → P Edition → P Field → P Points → P Dimension → Every P (first_verdict_of known bytes)
unfolding first_verdict_of
first_every known bytes short edition field points dimension =
    let d = depth_inside bytes in
    every_plain _ _ _ short
    (every_plain _ _ _ edition
    (every_plain _ _ _ short
    (every_then _ _
    (numbers_every _ _ _ _ _ field (λ t. absurd (never_deep _ d.0 d.1 t)) points dimension)
    (λ is_fine. every_plain _ _ _ short every_fine))))
