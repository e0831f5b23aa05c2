-- What encode and distance answer, and what encode leaves in the row, for every input.
use Rattle.std.specs.Prelude.{ℕ, ◌*◌, ◌/◌, ◌%◌, ◌≡◌, ◌||◌, not, List, eqb, ltb, length}
use Rattle.defs.specs.Place.{first_high}
use Rattle.defs.specs.Row.{row_of}
use Rattle.defs.specs.Distance.{distance}
use Rattle.defs.specs.Refusal.{refuse, and_then, answer, kept, Answer, Verdict, fine}
use Rattle.defs.specs.Limits.{deepest, longest, code_verdict}
use Rattle.defs.specs.declared.Refusal.TheVariants.{Depth, Length, SymbolHigh}

-- 8: the least index of a symbol outside the field
unfoldable pub symbols_verdict : ℕ → List ℕ → Verdict
symbols_verdict m s = refuse (ltb (first_high m s) (length s)) (SymbolHigh (first_high m s)) fine

-- 1 to 6, 7, 8; size is the length of the row buffer
unfoldable pub encode_verdict : ℕ → ℕ → ℕ → List ℕ → List ℕ → ℕ → Verdict
encode_verdict m r k points message size =
    and_then (code_verdict longest m r k points)
    (refuse (not (eqb (length message) k)) Length
    (refuse (not (eqb size (r * length points))) Length
    (symbols_verdict m message)))

pub record Encoded (m r k : ℕ) (points message row : List ℕ) (a : Answer) (row' : List ℕ) : Type 0 where
  pub answers : a ≡ answer (encode_verdict m r k points message (length row)) 0
  pub leaves : row' ≡ kept (encode_verdict m r k points message (length row)) (row_of m r points message) row

-- 2, then 7: lengths that differ, are 0, above the longest, or no multiple of r
unfoldable pub distance_verdict : ℕ → ℕ → ℕ → Verdict
distance_verdict r n n' =
    refuse (eqb r 0 || ltb deepest r) Depth
    (refuse (not (eqb n n') || (eqb n 0 || (ltb longest n || not (eqb (n % r) 0)))) Length fine)

unfoldable pub distance_answer : ℕ → List ℕ → List ℕ → Answer
distance_answer r u w = answer (distance_verdict r (length u) (length w)) (distance r (length u / r) u w)
