-- What the steps between the pair and the answer of decode say.
use Rattle.std.specs.Prelude.{ℕ, ◌*◌, ◌≡◌, not, List, Option, Some, None, eqb, length, take}
use Rattle.defs.specs.Place.{Symbols}
use Rattle.defs.specs.Row.{row_of}
use Rattle.defs.specs.Distance.{depths, distance, Near}
use Rattle.defs.specs.Refusal.{refuse, Verdict}
use Rattle.defs.specs.Limits.{longest}
use Rattle.defs.specs.Encode.{symbols_verdict}
use Rattle.defs.specs.declared.Refusal.TheVariants.{Length}
use Rattle.defs.specs.declared.Code.{Code}
use Rattle.code.specs.Checked.{points_of}
use Rattle.decode.specs.declared.Sought.{Sought}

-- 7 and 8: as many symbols as the rows of the code have, and the lengths of the two buffers
unfoldable pub rest_verdict : Code → List ℕ → ℕ → ℕ → Verdict
rest_verdict c w size deep =
    refuse (not (eqb (length w) (c.r * c.count))) Length
    (refuse (not (eqb size c.k)) Length
    (refuse (not (eqb deep c.count)) Length
    (symbols_verdict c.m w)))

-- the first symbols of f are a message of the code c, whose rows have n symbols
pub record Candidate (c : Code) (f : List ℕ) (n : ℕ) : Type 0 where
  pub long : length f ≡ longest
  pub symbols : Symbols c.m f
  pub size : n ≡ c.r * c.count

-- u has the row of that message, n symbols long
pub record Sent (c : Code) (f : List ℕ) (n : ℕ) (u : List ℕ) : Type 0 where
  pub long : length u ≡ longest
  pub row : take n u ≡ row_of c.m c.r (points_of c) (take c.k f)

-- s has a message near to w, and its row
pub record Nearby (c : Code) (w : List ℕ) (s : Sought) : Type 0 where
  pub long : length s.message ≡ longest
  pub sent : Sent c s.message (length w) s.row
  pub near : Near c.m c.r c.k (points_of c) w (take c.k s.message)

-- a message near to w, with its row; or none is near
abbrev pub IsSought : Code → List ℕ → Option Sought → Type 0
IsSought c w (Some s) = Nearby c w s
IsSought c w None = (f : List ℕ) → Near c.m c.r c.k (points_of c) w f → ⊥

-- the depths of damage in count chunks, and their sum
pub record Measured (r : ℕ) (u w : List ℕ) (count t : ℕ) (depth : List ℕ) : Type 0 where
  pub each : depth ≡ depths r count u w
  pub all : t ≡ distance r count u w
