-- What holds of both layouts of a slip holds of the layout of every edition.
use Prim.Native.Nat.{ℕ, ◌≤◌}
use mathlib.Core.Bool.{Bool, true, false, cond}
use native.Mathlib.Omega.{arith}
use lib.Dec.{eqb}
use Rattle.defs.specs.Limits.{longest}
use Rattle.defs.specs.Slip.{first_layout, second_layout, layout_of}
use Rattle.defs.specs.declared.Layout.{Layout}

pub by_layout : (P : Layout → Type 0) → P first_layout → P second_layout → (edition : ℕ) → P (layout_of edition)
unfolding layout_of
by_layout P p p' edition = either (eqb edition 2)
  where
    either : (b : Bool) → P (cond b second_layout first_layout)
    either true = p'
    either false = p

pub layout_top : (edition : ℕ) → (layout_of edition).top ≤ longest
layout_top = by_layout (λ L. L.top ≤ longest) (omega arith) (omega arith)
