-- The line that slipread prints: number, detail, bar, message, bar, depths; on a refusal number and detail only.
use Rattle.std.specs.Prelude.{ℕ, ◌≡◌, List, [], ◌∷◌, ◌++◌, length, Err, Ok}
use Rattle.defs.specs.Refusal.{number, detail, answer, kept, Answer, fine}
use Rattle.defs.specs.Limits.{longest}
use Rattle.defs.specs.Decode.{Decoded}
use Rattle.defs.specs.Slip.{width_in, depth_in, dimension_in, points_in, row_in}
use Rattle.defs.specs.Write.{front}
use Rattle.defs.specs.Read.{read_verdict}
use Rattle.defs.specs.Text.{decimal, text_verdict}
use Rattle.defs.specs.declared.Refusal.{Refusal}

-- each number behind a space
unfoldable pub spaced : List ℕ → List ℕ
spaced [] = []
spaced (x ∷ s) = (32 ∷ decimal x) ++ spaced s

-- number and detail
unfoldable pub heading : Answer → List ℕ
heading a = decimal (number a) ++ (32 ∷ decimal (detail a))

-- a bar and each number, all behind a space
unfoldable pub listed : List ℕ → List ℕ
listed s = 32 ∷ 124 ∷ spaced s

-- the line of what decode answers, where it gave this message and these depths
unfoldable pub line_of : Answer → List ℕ → List ℕ → List ℕ
line_of (Ok d) message depth = heading (Ok d) ++ (listed message ++ (listed depth ++ (10 ∷ [])))
line_of (Err x) message depth = heading (Err x) ++ (10 ∷ [])

-- the line of a row: that of its decoding, into any buffers of the right lengths
pub data RowLine (m r k : ℕ) (points w text : List ℕ) : Type 0 where
  decoded : (message depth message' depth' : List ℕ) (a : Answer) → length message ≡ k → length depth ≡ length points
      → Decoded m r k points w message depth a message' depth' → text ≡ line_of a message' depth' → RowLine m r k points w text

-- the line of some bytes: they are refused as a slip, or the row that stands in them is decoded
pub data Line (bytes text : List ℕ) : Type 0 where
  refused : (x : Refusal) → read_verdict bytes longest longest ≡ Err x → text ≡ line_of (Err x) [] [] → Line bytes text
  read : read_verdict bytes longest longest ≡ fine
      → RowLine (width_in bytes) (depth_in bytes) (dimension_in bytes) (points_in bytes) (row_in bytes) text → Line bytes text

pub record Lined (bytes buffer : List ℕ) (a : Answer) (buffer' : List ℕ) : Type 0 where
  pub text : List ℕ
  pub is_line : Line bytes text
  pub answers : a ≡ answer (text_verdict text (length buffer)) (length text)
  pub leaves : buffer' ≡ kept (text_verdict text (length buffer)) (front text buffer) buffer
