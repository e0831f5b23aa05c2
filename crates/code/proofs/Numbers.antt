-- The check of the numbers, test by test: a test that fails refuses, and one that is passed leaves the checks behind it.
use Prim.Native.Nat.{ℕ, ◌*◌, ◌^◌, ◌<◌, ◌≤◌}
use mathlib.Core.Bool.{true, false, ◌||◌}
use mathlib.Core.Path.{◌≡◌}
use native.Mathlib.Nat.{mul-le-mul, le_trans}
use borrow.Author.Tests.{eq-eqb, ne_eqb, lt-ltb, le-ltb}
use lib.Dec.{eqb, ltb}
use Rattle.defs.specs.Field.{Width}
use Rattle.defs.specs.Refusal.{refuse, Verdict, fine}
use Rattle.defs.specs.Limits.{deepest, is_width, numbers_verdict}
use Rattle.defs.specs.declared.Refusal.TheVariants.{Field, Depth, Points, Dimension}
use Rattle.theory.proofs.Width.{field_top}
use Rattle.std.proofs.Common.{Err}

pub product_small : (m r count size : ℕ) → Width m → r ≤ deepest → size ≡ 2 ^ m → count ≤ size → r * count ≤ 2048
product_small m r count size w h e l = let top : size ≤ 256 = rw e (field_top m w) in mul-le-mul h (le_trans l top)

-- the checks from 4 on, from 3 on and from 2 on
unfoldable pub from_dimension : ℕ → ℕ → ℕ → Verdict
from_dimension r k count = refuse (eqb k 0 || ltb (r * count) k) Dimension fine

unfoldable pub from_points : ℕ → ℕ → ℕ → ℕ → ℕ → Verdict
from_points top m r k count = refuse (eqb count 0 || (ltb (2 ^ m) count || ltb top (r * count))) Points (from_dimension r k count)

unfoldable pub from_depth : ℕ → ℕ → ℕ → ℕ → ℕ → Verdict
from_depth top m r k count = refuse (eqb r 0 || ltb deepest r) Depth (from_points top m r k count)

-- size is what the size of the field was found to be
module _ (top m r k count : ℕ) where
  pub not_width : is_width m ≡ false → numbers_verdict top m r k count ≡ Err Field
  unfolding numbers_verdict refuse
  not_width t = rw t

  pub width_passed : is_width m ≡ true → numbers_verdict top m r k count ≡ from_depth top m r k count
  unfolding numbers_verdict from_depth from_points from_dimension refuse
  width_passed t = rw t

  pub no_depth : r ≡ 0 → from_depth top m r k count ≡ Err Depth
  unfolding from_depth refuse
  no_depth t = rw (eq-eqb r 0 t)

  pub too_deep : (r ≡ 0 → ⊥) → deepest < r → from_depth top m r k count ≡ Err Depth
  unfolding from_depth refuse
  too_deep n t = rw (ne_eqb r 0 n, lt-ltb deepest r t)

  pub depth_passed : (r ≡ 0 → ⊥) → r ≤ deepest → from_depth top m r k count ≡ from_points top m r k count
  unfolding from_depth from_points refuse
  depth_passed n t = rw (ne_eqb r 0 n, le-ltb deepest r t)

  pub no_points : count ≡ 0 → from_points top m r k count ≡ Err Points
  unfolding from_points refuse
  no_points t = rw (eq-eqb count 0 t)

  module _ (some : count ≡ 0 → ⊥) (size : ℕ) (is_size : size ≡ 2 ^ m) where
    pub too_many : size < count → from_points top m r k count ≡ Err Points
    unfolding from_points refuse
    too_many t = rw (ne_eqb count 0 some, ← is_size, lt-ltb size count t)

    pub too_long : count ≤ size → top < r * count → from_points top m r k count ≡ Err Points
    unfolding from_points refuse
    too_long l t = rw (ne_eqb count 0 some, ← is_size, le-ltb size count l, lt-ltb top (r * count) t)

    pub points_passed : count ≤ size → r * count ≤ top → from_points top m r k count ≡ from_dimension r k count
    unfolding from_points from_dimension refuse
    points_passed l t = rw (ne_eqb count 0 some, ← is_size, le-ltb size count l, le-ltb top (r * count) t)

module _ (r k count : ℕ) where
  pub no_dimension : k ≡ 0 → from_dimension r k count ≡ Err Dimension
  unfolding from_dimension refuse
  no_dimension t = rw (eq-eqb k 0 t)

  pub too_large : (k ≡ 0 → ⊥) → r * count < k → from_dimension r k count ≡ Err Dimension
  unfolding from_dimension refuse
  too_large n t = rw (ne_eqb k 0 n, lt-ltb (r * count) k t)

  pub all_passed : (k ≡ 0 → ⊥) → k ≤ r * count → from_dimension r k count ≡ fine
  unfolding from_dimension refuse
  all_passed n t = rw (ne_eqb k 0 n, le-ltb (r * count) k t)
