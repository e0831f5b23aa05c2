-- Polynomials as lists of coefficients, lowest power first, and their Hasse coefficients at a point.
use Rattle.std.specs.Prelude.{ℕ, zero, suc, List, [], ◌∷◌}
use Rattle.defs.specs.Field.{add, mul}

-- h m P j f: the coefficient of (x - P)^j in f. By x = P + (x - P): c + x·f has the coefficients of P·f and those of f one place up
unfoldable pub h : ℕ → ℕ → ℕ → List ℕ → ℕ
h m P j [] = 0
h m P zero (c ∷ f) = add c (mul m P (h m P zero f))
h m P (suc j) (c ∷ f) = add (h m P j f) (mul m P (h m P (suc j) f))

-- f + g
unfoldable pub padd : List ℕ → List ℕ → List ℕ
padd [] g = g
padd (a ∷ f) [] = a ∷ f
padd (a ∷ f) (b ∷ g) = add a b ∷ padd f g

-- c · f
unfoldable pub scale : ℕ → ℕ → List ℕ → List ℕ
scale m c [] = []
scale m c (a ∷ f) = mul m c a ∷ scale m c f

-- f · g
unfoldable pub pmul : ℕ → List ℕ → List ℕ → List ℕ
pmul m [] g = []
pmul m (a ∷ f) g = padd (scale m a g) (0 ∷ pmul m f g)

-- the quotient of f by x - P. Its list is as long as f's and ends in 0
unfoldable pub quot : ℕ → ℕ → List ℕ → List ℕ
quot m P [] = []
quot m P (c ∷ f) = h m P 0 f ∷ quot m P f

-- (x - P) · f
unfoldable pub linear : ℕ → ℕ → List ℕ → List ℕ
linear m P f = padd (0 ∷ f) (scale m P f)

-- (x - P)^k · f
unfoldable pub linears : ℕ → ℕ → ℕ → List ℕ → List ℕ
linears m P zero f = f
linears m P (suc k) f = linear m P (linears m P k f)

-- the product of (x - P i)^(s i) over i < n
unfoldable pub product : ℕ → (ℕ → ℕ) → (ℕ → ℕ) → ℕ → List ℕ
product m P s zero = 1 ∷ []
product m P s (suc n) = linears m (P n) (s n) (product m P s n)
