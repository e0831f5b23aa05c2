-- Long division from the top, by a divisor whose highest coefficient is not zero.
use Rattle.std.specs.Prelude.{ℕ, suc, ◌+◌, ◌-◌, ◌^◌, ◌<◌, ◌≤◌, ◌≡◌, List, length, get_or}
use Rattle.defs.specs.Field.{add, mul}
use Rattle.defs.specs.Place.{Symbols}
use Rattle.defs.specs.Row.{Message}
use Rattle.defs.specs.Pair.{Zero}
use Rattle.defs.specs.Limits.{longest}
use Rattle.theory.specs.Poly.{pmul}
use Rattle.theory.specs.Vanish.{Same}

-- lead is q, or q without zeros behind it
pub record Leading (q lead : List ℕ) : Type 0 where
  pub within : length lead ≤ length q
  pub same : Same lead q

-- a is rem's coefficient over the top of q, divided by q's, and a x ^ at times q was taken off rem
pub record Divided (m : ℕ) (q : List ℕ) (inverse at : ℕ) (rem : List ℕ) (a : ℕ) (rem' : List ℕ) : Type 0 where
  pub is : a ≡ mul m (get_or rem (at + (length q - 1)) 0) inverse
  pub small : a < 2 ^ m
  pub symbols : Symbols m rem'
  pub size : length rem' ≡ length rem
  pub before : (p : ℕ) → p < at → get_or rem' p 0 ≡ get_or rem p 0
  pub off : (i : ℕ) → get_or rem' (at + i) 0 ≡ add (get_or rem (at + i) 0) (mul m a (get_or q i 0))

-- the k coefficients of the quotient of q₀ by q₁ are asked for
pub record Dividing (m k : ℕ) (q₀ q₁ : List ℕ) : Type 0 where
  pub symbols₀ : Symbols m q₀
  pub symbols₁ : Symbols m q₁
  pub long : length q₀ ≤ longest
  pub room : k + length q₁ ≤ suc (length q₀)

-- where q₀ is the product of q₁ and a message of k symbols, f has that message
pub record Quotient (m k : ℕ) (q₀ q₁ f : List ℕ) : Type 0 where
  pub long : length f ≡ longest
  pub symbols : Symbols m f
  pub exact : (g : List ℕ) → Message m k g → (Zero q₁ → ⊥) → Same q₀ (pmul m g q₁) → (i : ℕ) → i < k → get_or f i 0 ≡ get_or g i 0
