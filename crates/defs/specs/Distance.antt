-- Agreement, damage and distance (definition 4 of the paper), and what the decoder decides.
use Rattle.std.specs.Prelude.{ℕ, ◌+◌, ◌*◌, ◌-◌, ◌/◌, ◌≤◌, not, List, eqb, length, get_or}
use Rattle.defs.specs.Place.{least, tab, total}
use Rattle.defs.specs.Row.{Message, row_of}

-- symbol j of chunk i of a row whose chunks are r deep
abbrev pub symbol : ℕ → List ℕ → ℕ → ℕ → ℕ
symbol r w i j = get_or w (i * r + j) 0

-- the largest s ≤ r for which the first s symbols of two chunks are equal
unfoldable pub agree : ℕ → (ℕ → ℕ) → (ℕ → ℕ) → ℕ
agree r u v = least (λ j. not (eqb (u j) (v j))) r

-- how deep chunk i of two rows agrees
unfoldable pub agree_at : ℕ → List ℕ → List ℕ → ℕ → ℕ
agree_at r u w i = agree r (symbol r u i) (symbol r w i)

-- the depth of damage in chunk i
unfoldable pub damage : ℕ → List ℕ → List ℕ → ℕ → ℕ
damage r u w i = r - agree_at r u w i

-- the depths of damage in all chunks
unfoldable pub depths : ℕ → ℕ → List ℕ → List ℕ → List ℕ
depths r count u w = tab (damage r u w) count

-- the distance of two rows of count chunks
unfoldable pub distance : ℕ → ℕ → List ℕ → List ℕ → ℕ
distance r count u w = total count (damage r u w)

-- half of what n symbols have more than k, rounded down
unfoldable pub radius : ℕ → ℕ → ℕ
radius n k = (n - k) / 2

-- how far a row may be from that of the message that it is decoded to
abbrev pub reach : ℕ → ℕ → List ℕ → ℕ
reach r k points = radius (r * length points) k

-- f is a message of the code whose row is within the radius of the row w
pub record Near (m r k : ℕ) (points w f : List ℕ) : Type 0 where
  pub message : Message m k f
  pub within : distance r (length points) (row_of m r points f) w ≤ reach r k points
