-- The key equation of the decoder, and its solutions within given degrees.
use Rattle.std.specs.Prelude.{ℕ, suc, ◌+◌, ◌-◌, ◌<◌, ◌≡◌, List}
use Rattle.defs.specs.Field.{add, mul}
use Rattle.defs.specs.Place.{Symbols}
use Rattle.defs.specs.Row.{sum}
use Rattle.theory.specs.Poly.{h}
use Rattle.theory.specs.Vanish.{Deg}

-- the sum of F a · G (j - a) over a ≤ j
unfoldable pub conv : ℕ → ℕ → (ℕ → ℕ) → (ℕ → ℕ) → ℕ
conv m j F G = sum (suc j) (λ a. mul m (F a) (G (j - a)))

-- Q₀ + w·Q₁ vanishes to depth r i at each point P i, i < n, where w i a is the a-th Hasse coefficient at P i that was received
abbrev pub Key : ℕ → (ℕ → ℕ) → (ℕ → ℕ) → ℕ → (ℕ → ℕ → ℕ) → List ℕ → List ℕ → Type 0
Key m P r n w Q₀ Q₁ = (i : ℕ) → i < n → (j : ℕ) → j < r i → add (h m (P i) j Q₀) (conv m j (w i) (λ a. h m (P i) a Q₁)) ≡ 0

pub record Solution (m : ℕ) (P r : ℕ → ℕ) (n k t : ℕ) (w : ℕ → ℕ → ℕ) (Q₀ Q₁ : List ℕ) : Type 0 where
  pub symbols₀ : Symbols m Q₀
  pub symbols₁ : Symbols m Q₁
  pub deg₀ : Deg (k + t) Q₀
  pub deg₁ : Deg (suc t) Q₁
  pub key : Key m P r n w Q₀ Q₁
