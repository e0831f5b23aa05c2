-- The pair of polynomials that the decoder looks for: formula (9) of the paper.
use Rattle.std.specs.Prelude.{ℕ, suc, ◌+◌, ◌*◌, ◌-◌, ◌/◌, ◌<◌, ◌≡◌, List, length, get_or}
use Rattle.defs.specs.Field.{add, mul}
use Rattle.defs.specs.Place.{Symbols}
use Rattle.defs.specs.Row.{sum, coefficient}
use Rattle.defs.specs.Distance.{symbol, reach}

-- the coefficient j of Q₀ + w_i Q₁ at P_i, where w_i is chunk i as a polynomial in x - P_i
unfoldable pub mixed : ℕ → ℕ → List ℕ → List ℕ → List ℕ → List ℕ → ℕ → ℕ → ℕ
mixed m r points w Q₀ Q₁ i j =
    add (coefficient m Q₀ (get_or points i 0) j)
    (sum (suc j) (λ a. mul m (symbol r w i a) (coefficient m Q₁ (get_or points i 0) (j - a))))

abbrev pub Zero : List ℕ → Type 0
Zero f = (i : ℕ) → get_or f i 0 ≡ 0

-- deg Q₀ < floor((n + k) / 2), deg Q₁ ≤ t, not both zero, and at every point the first r coefficients of Q₀ + w_i Q₁ vanish
pub record IsPair (m r k : ℕ) (points w Q₀ Q₁ : List ℕ) : Type 0 where
  pub size₀ : length Q₀ ≡ (r * length points + k) / 2
  pub size₁ : length Q₁ ≡ suc (reach r k points)
  pub symbols₀ : Symbols m Q₀
  pub symbols₁ : Symbols m Q₁
  pub nonzero : Zero Q₀ → Zero Q₁ → ⊥
  pub vanishes : (i : ℕ) → i < length points → (j : ℕ) → j < r → mixed m r points w Q₀ Q₁ i j ≡ 0
