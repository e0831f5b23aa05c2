-- A text that is handed out to a caller.
use Rattle.std.specs.Prelude.{ℕ, ◌≡◌, List, length}
use Rattle.defs.specs.Refusal.{answer, kept, Answer}
use Rattle.defs.specs.Write.{front}
use Rattle.defs.specs.Text.{text_verdict}

-- a text went to a caller's buffer, or was refused 7 for want of room
pub record Handed (text buffer : List ℕ) (a : Answer) (buffer' : List ℕ) : Type 0 where
  pub answers : a ≡ answer (text_verdict text (length buffer)) (length text)
  pub leaves : buffer' ≡ kept (text_verdict text (length buffer)) (front text buffer) buffer
