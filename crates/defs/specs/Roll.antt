-- A roll: slips one behind another. Where the first one ends, the two parts, and the walk over the whole.
use Rattle.std.specs.Prelude.{ℕ, zero, suc, cond, List, [], ◌∷◌, ◌++◌, eqb, length, take, drop}
use Rattle.defs.specs.Refusal.{kept, Verdict, fine}
use Rattle.defs.specs.Slip.{size_in}
use Rattle.defs.specs.Read.{first_verdict}

-- an empty roll is done, another one begins with a slip or is refused
unfoldable pub roll_verdict : List ℕ → Verdict
roll_verdict [] = fine
roll_verdict (b ∷ s) = first_verdict (b ∷ s)

-- the bytes of the first slip, none on a refusal, and what stands behind them
unfoldable pub first_part : List ℕ → List ℕ
first_part roll = kept (roll_verdict roll) (take (size_in roll) roll) []

unfoldable pub rest_part : List ℕ → List ℕ
rest_part roll = kept (roll_verdict roll) (drop (size_in roll) roll) roll

-- what a walk finds: the slips in their order, what is left behind them, and done or the refusal that ended it
pub record Walk : Type 0 where
  pub slips : List (List ℕ)
  pub left : List ℕ
  pub ended : Verdict

unfoldable pub walk_end : List ℕ → Walk
walk_end roll = record { slips = []; left = roll; ended = roll_verdict roll }

unfoldable pub walk_on : List ℕ → Walk → Walk
walk_on slip w = record { slips = slip ∷ w.slips; left = w.left; ended = w.ended }

-- as many slips as there are, but at most t
unfoldable pub walk_for : ℕ → List ℕ → Walk
walk_for zero roll = walk_end roll
walk_for (suc t) roll = cond (eqb (length (first_part roll)) 0) (walk_end roll) (walk_on (first_part roll) (walk_for t (rest_part roll)))

-- a slip is not empty, so there are no more slips than bytes
unfoldable pub walk : List ℕ → Walk
walk roll = walk_for (length roll) roll

-- slips one behind another
unfoldable pub joined : List (List ℕ) → List ℕ
joined [] = []
joined (s ∷ rest) = s ++ joined rest
