-- What is left in a long division from the top.
use Rattle.std.specs.Prelude.{ℕ, ◌≡◌, List, get_or, take}
use Rattle.theory.specs.Poly.{pmul}

-- of f·g, where the coefficients of f from i on have been found, rem is left: g times the part of f below i
abbrev pub Remains : ℕ → List ℕ → List ℕ → ℕ → (ℕ → ℕ) → Type 0
Remains m f g i rem = (x : ℕ) → rem x ≡ get_or (pmul m (take i f) g) x 0
