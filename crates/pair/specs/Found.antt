-- What finding a pair asks and answers. It says nothing of how a pair is found.
use Rattle.std.specs.Prelude.{ℕ, ◌*◌, ◌≡◌, List, Option, Some, None, length, take}
use Rattle.defs.specs.Place.{Symbols}
use Rattle.defs.specs.Pair.{IsPair}
use Rattle.defs.specs.declared.Code.{Code}
use Rattle.pair.specs.declared.Pair.{Pair}

-- w is as long as the rows of the code c, and of symbols of its field
pub record IsRow (c : Code) (w : List ℕ) : Type 0 where
  pub size : length w ≡ c.r * c.count
  pub symbols : Symbols c.m w

-- the two polynomials of a pair
abbrev pub q₀ : Pair → List ℕ
q₀ p = take p.sizes.s0 p.q0

abbrev pub q₁ : Pair → List ℕ
q₁ p = take p.sizes.s1 p.q1

-- a pair that meets the equations, or there is none
abbrev pub Found : ℕ → ℕ → ℕ → List ℕ → List ℕ → Option Pair → Type 0
Found m r k points w (Some p) = IsPair m r k points w (q₀ p) (q₁ p)
Found m r k points w None = (Q₀ Q₁ : List ℕ) → IsPair m r k points w Q₀ Q₁ → ⊥
