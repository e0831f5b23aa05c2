-- What a slip may be refused by.
use Prim.Native.Nat.{ℕ, ◌<◌}
use mathlib.Core.Bool.{Bool, true, ◌||◌, not}
use mathlib.Core.Path.{◌≡◌, refl}
use mathlib.Core.List.{List}
use native.Mathlib.Omega.{arith}
use lib.Dec.{eqb, lit<}
use Rattle.defs.specs.Refusal.{number_of, place_of}
use Rattle.defs.specs.Limits.{longest, first_twice}
use Rattle.defs.specs.Slip.{is_edition, count_in, points_in}
use Rattle.defs.specs.Read.{first_verdict, head_verdict, read_verdict}
use Rattle.defs.specs.declared.Refusal.{Refusal}
use Rattle.defs.specs.declared.Refusal.TheVariants.{Field, Points, Dimension, PointTwice, Length, SlipShort, Edition, SlipLong, SlipBits}
use Rattle.theory.proofs.Verdict.{Every, every_fine, every_plain, every_place, every_then}
use Rattle.slip.proofs.Reader.{sound, points_few}
use Rattle.slip.proofs.Refusals.{first_every}

-- neither 2, 5 nor 8
abbrev pub readers : ℕ → Bool
readers n = not (eqb n 2 || (eqb n 5 || eqb n 8))

-- a property that each refusal has whose number is the reader's and whose place, if any, is below the longest row's length
module _ {P : Refusal → Type 0} (told : (x : Refusal) → readers (number_of x) ≡ true → place_of x < longest → P x) (bytes : List ℕ) where
  head_every : Every P (head_verdict bytes)
  unfolding head_verdict
  head_every =
      every_then (first_verdict bytes) _
      (first_every is_edition bytes (told SlipShort refl (lit< tt)) (told Edition refl (lit< tt)) (told Field refl (lit< tt)) (told Points refl (lit< tt)) (told Dimension refl (lit< tt)))
      (λ is_fine. every_plain _ _ _ (told SlipLong refl (lit< tt)) every_fine)

  pub read_every : (count n : ℕ) → Every P (read_verdict bytes count n)
  unfolding read_verdict
  read_every count n =
      every_then (head_verdict bytes) _ head_every
      (λ is_fine. every_plain _ _ _ (told SlipBits refl (lit< tt))
      (every_place (first_twice (points_in bytes)) (count_in bytes) _ _
      (λ l. told (PointTwice _) refl (omega (arith, points_few bytes (sound bytes is_fine))))
      (every_plain _ _ _ (told Length refl (lit< tt)) every_fine)))
