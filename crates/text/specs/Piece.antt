-- A piece of text that is written at a place of a buffer.
use Rattle.std.specs.Prelude.{ℕ, ◌+◌, ◌≡◌, List, ◌++◌, length, take}

-- from the place at on a piece was written to the buffer old, which is new then; the text ends at end
pub record Wrote (old : List ℕ) (at : ℕ) (piece new : List ℕ) (end : ℕ) : Type 0 where
  pub size : length new ≡ length old
  pub ends : end ≡ at + length piece
  pub text : take end new ≡ take at old ++ piece
