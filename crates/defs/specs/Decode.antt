-- What decode answers, and what it leaves in the message and the depths, for every input.
use Rattle.std.specs.Prelude.{ℕ, ◌*◌, ◌≡◌, not, List, eqb, length, Err, Ok}
use Rattle.defs.specs.Row.{row_of}
use Rattle.defs.specs.Distance.{depths, distance, Near}
use Rattle.defs.specs.Refusal.{refuse, and_then, Answer, Verdict, fine}
use Rattle.defs.specs.Limits.{longest, code_verdict}
use Rattle.defs.specs.Encode.{symbols_verdict}
use Rattle.defs.specs.declared.Refusal.{Refusal}
use Rattle.defs.specs.declared.Refusal.TheVariants.{Length, TooFar}

-- 1 to 6, 7, 8; the last two numbers are the lengths of the message buffer and of the depth buffer
unfoldable pub decode_verdict : ℕ → ℕ → ℕ → List ℕ → List ℕ → ℕ → ℕ → Verdict
decode_verdict m r k points w size count =
    and_then (code_verdict longest m r k points)
    (refuse (not (eqb (length w) (r * length points))) Length
    (refuse (not (eqb size k)) Length
    (refuse (not (eqb count (length points))) Length
    (symbols_verdict m w))))

-- refused by the checks; or f is found; or no message is near
pub data Decoded (m r k : ℕ) (points w message depth : List ℕ) (a : Answer) (message' depth' : List ℕ) : Type 0 where
  refused : (x : Refusal) → decode_verdict m r k points w (length message) (length depth) ≡ Err x
      → a ≡ Err x → message' ≡ message → depth' ≡ depth → Decoded m r k points w message depth a message' depth'
  found : (f : List ℕ) → decode_verdict m r k points w (length message) (length depth) ≡ fine → Near m r k points w f
      → a ≡ Ok (distance r (length points) (row_of m r points f) w)
      → message' ≡ f → depth' ≡ depths r (length points) (row_of m r points f) w → Decoded m r k points w message depth a message' depth'
  none : decode_verdict m r k points w (length message) (length depth) ≡ fine → ((f : List ℕ) → Near m r k points w f → ⊥)
      → a ≡ Err TooFar → message' ≡ message → depth' ≡ depth → Decoded m r k points w message depth a message' depth'
