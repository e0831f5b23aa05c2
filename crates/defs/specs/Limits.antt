-- The limits of a code, as the refusals 1 to 6 in their order.
use Rattle.std.specs.Prelude.{ℕ, ◌*◌, ◌^◌, ◌≡◌, Bool, ◌||◌, not, List, eqb, ltb, length, get_or}
use Rattle.defs.specs.Place.{least, first_high}
use Rattle.defs.specs.Refusal.{refuse, and_then, Verdict, fine}
use Rattle.defs.specs.declared.Refusal.TheVariants.{Field, Depth, Points, Dimension, PointHigh, PointTwice}

-- the symbols that a chunk may have, and those that a row may have
abbrev pub deepest : ℕ
deepest = 8

abbrev pub longest : ℕ
longest = 240

abbrev pub is_width : ℕ → Bool
is_width m = eqb m 2 || (eqb m 4 || eqb m 8)

-- 1 to 4, on the numbers alone; top is the longest row allowed, count the number of points
unfoldable pub numbers_verdict : ℕ → ℕ → ℕ → ℕ → ℕ → Verdict
numbers_verdict top m r k count =
    refuse (not (is_width m)) Field
    (refuse (eqb r 0 || ltb deepest r) Depth
    (refuse (eqb count 0 || (ltb (2 ^ m) count || ltb top (r * count))) Points
    (refuse (eqb k 0 || ltb (r * count) k) Dimension fine)))

-- the least index whose point equals an earlier one, and the number of points where there is none
unfoldable pub first_twice : List ℕ → ℕ
first_twice points = least (λ i. ltb (least (λ j. eqb (get_or points j 0) (get_or points i 0)) i) i) (length points)

-- and 5 and 6
unfoldable pub code_verdict : ℕ → ℕ → ℕ → ℕ → List ℕ → Verdict
code_verdict top m r k points =
    and_then (numbers_verdict top m r k (length points))
    (refuse (ltb (first_high m points) (length points)) (PointHigh (first_high m points))
    (refuse (ltb (first_twice points) (length points)) (PointTwice (first_twice points)) fine))

-- a code whose rows have at most top symbols
abbrev pub Within : ℕ → ℕ → ℕ → ℕ → List ℕ → Type 0
Within top m r k points = code_verdict top m r k points ≡ fine

-- a code inside the limits
abbrev pub Inside : ℕ → ℕ → ℕ → List ℕ → Type 0
Inside = Within longest
