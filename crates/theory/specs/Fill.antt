-- A list into which values have been written one after another, as a loop that fills a buffer or a part of it leaves it.
use Rattle.std.specs.Prelude.{ℕ, ◌+◌, ◌<◌, ◌≡◌, List, ◌++◌, length, get_or, take, drop}
use Rattle.defs.specs.Place.{tab}

-- d with F 0, F 1, .., F (n - 1) in it from index at on
unfoldable pub filled : List ℕ → ℕ → (ℕ → ℕ) → ℕ → List ℕ
filled d at F n = take at d ++ tab F n ++ drop (at + n) d

-- t is t₀ but for n entries from base on, of which the a-th is g a
pub record Span (t₀ : List ℕ) (base n : ℕ) (g : ℕ → ℕ) (t : List ℕ) : Type 0 where
  pub size : length t ≡ length t₀
  pub inside : (a : ℕ) → a < n → get_or t (base + a) 0 ≡ g a
  pub outside : (k : ℕ) → ((a : ℕ) → a < n → k ≡ base + a → ⊥) → get_or t k 0 ≡ get_or t₀ k 0
