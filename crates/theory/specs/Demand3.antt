-- What the user's third demand counts: chunks in which two rows agree whole or differ, and two messages that attain a bound.
use Rattle.std.specs.Prelude.{ℕ, ◌-◌, ◌≡◌, cond, List, eqb, length}
use Rattle.defs.specs.Place.{total}
use Rattle.defs.specs.Row.{Message, row_of}
use Rattle.defs.specs.Distance.{agree_at, damage}

-- the number of chunks in which two rows agree whole
unfoldable pub whole_chunks : ℕ → ℕ → List ℕ → List ℕ → ℕ
whole_chunks r count u w = total count (λ i. cond (eqb (agree_at r u w i) r) 1 0)

-- the number of chunks in which they differ
unfoldable pub damaged_chunks : ℕ → ℕ → List ℕ → List ℕ → ℕ
damaged_chunks r count u w = total count (λ i. cond (eqb (damage r u w i) 0) 0 1)

-- two messages whose rows agree to a total depth of exactly k - 1
pub record Closest (m r k : ℕ) (points : List ℕ) : Type 0 where
  pub f : List ℕ
  pub g : List ℕ
  pub message_f : Message m k f
  pub message_g : Message m k g
  pub differ : f ≡ g → ⊥
  pub exactly : total (length points) (agree_at r (row_of m r points f) (row_of m r points g)) ≡ k - 1
