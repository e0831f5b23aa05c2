-- The checked code, what is known of it, and the answer of a search.
use Rattle.std.specs.Prelude.{ℕ, ◌≡◌, cond, Option, Some, None, List, ltb, length, take, replicate}
use Rattle.defs.specs.Limits.{longest, Inside}
use Rattle.defs.specs.Write.{front}
use Rattle.defs.specs.declared.Code.{Code}

-- what a search for the least index answers, where n means that there is none
abbrev pub found : ℕ → ℕ → Option ℕ
found i n = cond (ltb i n) (Some i) None

unfoldable pub zeros : List ℕ
zeros = replicate longest 0

-- the points, with zeros behind them
unfoldable pub padded : List ℕ → List ℕ
padded points = front points zeros

-- the code has these numbers and these points
pub record CodeOf (m r k : ℕ) (points : List ℕ) (c : Code) : Type 0 where
  pub m_is : c.m ≡ m
  pub r_is : c.r ≡ r
  pub k_is : c.k ≡ k
  pub count_is : c.count ≡ length points
  pub points_are : c.points ≡ padded points

abbrev pub points_of : Code → List ℕ
points_of c = take c.count c.points

-- what the type says of a code: it has passed the check
pub record IsCode (c : Code) : Type 0 where
  pub inside : Inside c.m c.r c.k (points_of c)
  pub room : length c.points ≡ longest
  pub counted : length (points_of c) ≡ c.count
