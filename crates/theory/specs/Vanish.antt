-- What is said of a polynomial: its degree, its top coefficient, and the depths of its zeros at given points.
use Rattle.std.specs.Prelude.{ℕ, suc, ◌<◌, ◌≤◌, ◌≡◌, List, get_or, length}
use Rattle.theory.specs.Poly.{h}

-- the degree of f is below n
abbrev pub Deg : ℕ → List ℕ → Type 0
Deg n f = (i : ℕ) → n ≤ i → get_or f i 0 ≡ 0

-- f and g have the same coefficients
abbrev pub Same : List ℕ → List ℕ → Type 0
Same f g = (i : ℕ) → get_or f i 0 ≡ get_or g i 0

-- f has a zero of depth s at P
abbrev pub Root : ℕ → List ℕ → ℕ → ℕ → Type 0
Root m f P s = (j : ℕ) → j < s → h m P j f ≡ 0

-- f has a zero of depth s i at each P i, i < n
abbrev pub Roots : ℕ → List ℕ → ℕ → (ℕ → ℕ) → (ℕ → ℕ) → Type 0
Roots m f n P s = (i : ℕ) → i < n → Root m f (P i) (s i)

-- f has degree N and the top coefficient 1
pub record Monic (N : ℕ) (f : List ℕ) : Type 0 where
  pub size : length f ≡ suc N
  pub top : get_or f N 0 ≡ 1
