-- An answer as one number, and the calls' contracts over that number.
use Rattle.std.specs.Prelude.{ℕ, ◌+◌, ◌*◌, ◌%◌, ◌^◌, ◌<◌, ◌≡◌, Result, Ok, Err, List, length}
use Rattle.defs.specs.Refusal.{number, detail, answer, verdict_of, Answer}
use Rattle.defs.specs.Encode.{Encoded}
use Rattle.defs.specs.Decode.{Decoded}
use Rattle.defs.specs.Write.{Written}
use Rattle.defs.specs.Read.{Read}
use Rattle.defs.specs.Line.{Lined}
use Rattle.defs.specs.Roll.{roll_verdict, first_part}
use Rattle.defs.specs.Turn.{Turned}
use Rattle.defs.specs.Levels.{LevelsRead, LevelsWritten}
use Rattle.defs.specs.declared.Refusal.{Refusal}
use Rattle.defs.specs.declared.SlipRead.{SlipRead}

-- the number in the low byte, the detail above it
abbrev pub packed : Answer → ℕ
packed a = number a + detail a * 2 ^ 8

-- the edition and the code's numbers that the reader's word shows: 0 for each on a refusal
abbrev pub shown : Result SlipRead Refusal → SlipRead
shown (Ok s) = s
shown (Err x) = record { edition = 0; m = 0; r = 0; count = 0; k = 0 }

-- and its number and detail: 0 and 0 where it reads
abbrev pub told : Result SlipRead Refusal → Answer
told a = answer (verdict_of a) 0

-- the number, m, r, n', k, the detail and the edition in a byte each
abbrev pub packed_read : Result SlipRead Refusal → ℕ
packed_read a =
    number (told a) + (shown a).m * 2 ^ 8 + (shown a).r * 2 ^ 16 + (shown a).count * 2 ^ 24 + (shown a).k * 2 ^ 32
    + detail (told a) * 2 ^ 40 + (shown a).edition * 2 ^ 48

-- the number, and the size of a roll's first slip above it
abbrev pub packed_roll : List ℕ → ℕ
packed_roll roll = number (answer (roll_verdict roll) 0) + length (first_part roll) * 2 ^ 8

-- the number, and the low 56 bits of the number of a text's line above it
abbrev pub packed_line : Answer → ℕ
packed_line a = number a + detail a % 2 ^ 56 * 2 ^ 8

-- p packs an answer that the call may give
pub record Packs {A : Type 0} (pack : A → ℕ) (Call : A → Type 0) (p : ℕ) : Type 0 where
  pub answer : A
  pub call : Call answer
  pub packs : p ≡ pack answer

abbrev pub PackedEncoded : ℕ → ℕ → ℕ → List ℕ → List ℕ → List ℕ → ℕ → List ℕ → Type 0
PackedEncoded m r k points message row p row' = Packs packed (λ a. Encoded m r k points message row a row') p

abbrev pub PackedDecoded : ℕ → ℕ → ℕ → List ℕ → List ℕ → List ℕ → List ℕ → ℕ → List ℕ → List ℕ → Type 0
PackedDecoded m r k points w message depth p message' depth' =
    Packs packed (λ a. Decoded m r k points w message depth a message' depth') p

abbrev pub PackedWritten : ℕ → ℕ → ℕ → ℕ → List ℕ → List ℕ → List ℕ → ℕ → List ℕ → Type 0
PackedWritten edition m r k points w bytes p bytes' = Packs packed (λ a. Written edition m r k points w bytes a bytes') p

abbrev pub PackedRead : List ℕ → List ℕ → List ℕ → ℕ → List ℕ → List ℕ → Type 0
PackedRead bytes points row p points' row' = Packs packed_read (λ a. Read bytes points row a points' row') p

abbrev pub PackedLined : List ℕ → List ℕ → ℕ → List ℕ → Type 0
PackedLined bytes buffer p buffer' = Packs packed (λ a. Lined bytes buffer a buffer') p

abbrev pub PackedTurned : ℕ → ℕ → List ℕ → List ℕ → ℕ → List ℕ → Type 0
PackedTurned from to slip bytes p bytes' = Packs packed (λ a. Turned from to slip bytes a bytes') p

abbrev pub PackedLevelsRead : ℕ → ℕ → List ℕ → List ℕ → ℕ → List ℕ → Type 0
PackedLevelsRead m r text row p row' = Packs packed_line (λ a. LevelsRead m r text row a row') p

abbrev pub PackedLevelsWritten : ℕ → ℕ → List ℕ → List ℕ → ℕ → List ℕ → Type 0
PackedLevelsWritten m r w text p text' = Packs packed (λ a. LevelsWritten m r w text a text') p

-- what the reader answers has room in its byte
pub record Narrow (a : Result SlipRead Refusal) : Type 0 where
  pub m_fits : (shown a).m < 2 ^ 8
  pub r_fits : (shown a).r < 2 ^ 8
  pub count_fits : (shown a).count < 2 ^ 8
  pub k_fits : (shown a).k < 2 ^ 8
  pub detail_fits : detail (told a) < 2 ^ 8
  pub edition_fits : (shown a).edition < 2 ^ 8
