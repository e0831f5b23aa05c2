-- What is known of a code that has been checked, in plain facts.
use Prim.Native.Nat.{ℕ, ◌<◌}
use mathlib.Core.Path.{◌≡◌, sym, subst}
use lib.ListN.{get_or}
use lib.Seq.{get_or-take}
use Rattle.defs.specs.Field.{Width}
use Rattle.defs.specs.Place.{Symbols}
use Rattle.defs.specs.declared.Code.{Code}
use Rattle.theory.specs.Limits.{Numbers}
use Rattle.theory.proofs.Limits.{inside_known}
use Rattle.code.specs.Checked.{points_of, IsCode}

pub code_numbers : {c : Code} → IsCode c → Numbers c.m c.r c.k c.count
code_numbers {c} C = subst (λ (n : ℕ). Numbers c.m c.r c.k n) C.counted (inside_known _ _ _ (points_of c) C.inside).numbers

pub code_symbols : {c : Code} → IsCode c → Symbols c.m (points_of c)
code_symbols {c} C = (inside_known _ _ _ (points_of c) C.inside).symbols

pub code_point : {c : Code} → IsCode c → (i : ℕ) → i < c.count → get_or c.points i 0 ≡ get_or (points_of c) i 0
code_point {c} C i l = sym (get_or-take c.count c.points i 0 l)

pub code_width : (c : Code) → Width c.m
code_width c = (inside_known _ _ _ (points_of c) c.inside).numbers.width
