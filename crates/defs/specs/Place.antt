-- Places: the least index that passes a test, the list of a function's first values, and their sum.
use Rattle.std.specs.Prelude.{ℕ, zero, suc, ◌+◌, ◌^◌, ◌<◌, Bool, cond, List, [], ◌∷◌, leb, length, get_or}

-- the least i below n with p i, and n where there is none
unfoldable pub least : (ℕ → Bool) → ℕ → ℕ
least p zero = 0
least p (suc n) = cond (p 0) 0 (suc (least (λ i. p (suc i)) n))

-- F 0, F 1, .., F (n - 1)
unfoldable pub tab : (ℕ → ℕ) → ℕ → List ℕ
tab F zero = []
tab F (suc n) = F 0 ∷ tab (λ i. F (suc i)) n

-- the sum of F i over i < n, of numbers
unfoldable pub total : ℕ → (ℕ → ℕ) → ℕ
total zero F = 0
total (suc n) F = total n F + F n

-- all of s are symbols of the field with 2 ^ m elements
abbrev pub Symbols : ℕ → List ℕ → Type 0
Symbols m s = (i : ℕ) → get_or s i 0 < 2 ^ m

-- the least index of a symbol that is 2 ^ m or more, and the length where there is none
unfoldable pub first_high : ℕ → List ℕ → ℕ
first_high m s = least (λ i. leb (2 ^ m) (get_or s i 0)) (length s)
