-- Decimal numbers, as they are written and as they are read, and a text that goes to a caller's buffer.
use Rattle.std.specs.Prelude.{ℕ, zero, suc, ◌+◌, ◌*◌, ◌-◌, ◌/◌, ◌%◌, Bool, cond, ◌&&◌, List, [], ◌∷◌, ◌++◌, leb, ltb, length}
use Rattle.defs.specs.Refusal.{refuse, Verdict, fine}
use Rattle.defs.specs.declared.Refusal.TheVariants.{Length}

-- a number below 10 ^ d in decimal, without leading zeros
unfoldable pub digits : ℕ → ℕ → List ℕ
digits zero x = []
digits (suc d) x = cond (ltb x 10) ((48 + x) ∷ []) (digits d (x / 10) ++ ((48 + x % 10) ∷ []))

-- a machine word has at most 20 digits
unfoldable pub decimal : ℕ → List ℕ
decimal x = digits 20 x

unfoldable pub is_digit : ℕ → Bool
is_digit b = leb 48 b && leb b 57

-- how many digits stand in front of some bytes
unfoldable pub digit_count : List ℕ → ℕ
digit_count [] = 0
digit_count (b ∷ s) = cond (is_digit b) (suc (digit_count s)) 0

-- the number that they make, behind those of v
unfoldable pub value_from : ℕ → List ℕ → ℕ
value_from v [] = v
value_from v (b ∷ s) = cond (is_digit b) (value_from (v * 10 + (b - 48)) s) v

-- 7 for a buffer too short
unfoldable pub text_verdict : List ℕ → ℕ → Verdict
text_verdict text size = refuse (ltb size (length text)) Length fine
