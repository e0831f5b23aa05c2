-- What is packed can be read back: no part of an answer runs into another. These are the macros of include/plq.h.
use Prim.Native.Nat.{ℕ, ◌/◌, ◌%◌, ◌^◌, ◌<◌}
use mathlib.Core.Path.{◌≡◌, ◌∙◌}
use mathlib.Core.List.{List}
use native.Mathlib.Omega.{arith}
use lib.ListN.{length}
use Rattle.defs.specs.Refusal.{number, detail, answer, Answer}
use Rattle.defs.specs.Read.{Read}
use Rattle.defs.specs.Roll.{roll_verdict, first_part}
use Rattle.defs.specs.Levels.{LevelsRead}
use Rattle.defs.specs.declared.Refusal.{Refusal}
use Rattle.defs.specs.declared.SlipRead.{SlipRead}
use Rattle.std.proofs.Common.{Result}
use Rattle.plq.specs.Packed.{shown, told, packed, packed_read, packed_roll, packed_line}
use Rattle.plq.proofs.Small.{number_small, read_narrow}
use Rattle.promises.proofs.LevelRefusals.{line_kept}

pub unpacked : (a : Answer) → (packed a % 2 ^ 8 ≡ number a) × (packed a / 2 ^ 8 ≡ detail a)
unpacked a = (omega (arith, number_small a), omega (arith, number_small a))

pub roll_unpacked : (roll : List ℕ)
    → (packed_roll roll % 2 ^ 8 ≡ number (answer (roll_verdict roll) 0)) × (packed_roll roll / 2 ^ 8 ≡ length (first_part roll))
roll_unpacked roll =
    let l = number_small (answer (roll_verdict roll) 0) in
    (omega arith, omega arith)

pub line_unpacked : (a : Answer) → (packed_line a % 2 ^ 8 ≡ number a) × (packed_line a / 2 ^ 8 ≡ detail a % 2 ^ 56)
line_unpacked a = (omega (arith, number_small a), omega (arith, number_small a))

-- and so all of a line's number, for every text below 2 ^ 57 bytes
pub levels_unpacked : (m r : ℕ) (text row : List ℕ) (a : Answer) (row' : List ℕ) → LevelsRead m r text row a row' → length text < 2 ^ 57
    → packed_line a / 2 ^ 8 ≡ detail a
levels_unpacked m r text row a row' x l = (line_unpacked a).1 ∙ line_kept m r text row a row' x l

-- the parts of a number that packs what the slip reader answers
pub record Unpacked (p : ℕ) (a : Result SlipRead Refusal) : Type 0 where
  pub number_is : p % 2 ^ 8 ≡ number (told a)
  pub m_is : p / 2 ^ 8 % 2 ^ 8 ≡ (shown a).m
  pub r_is : p / 2 ^ 16 % 2 ^ 8 ≡ (shown a).r
  pub count_is : p / 2 ^ 24 % 2 ^ 8 ≡ (shown a).count
  pub k_is : p / 2 ^ 32 % 2 ^ 8 ≡ (shown a).k
  pub detail_is : p / 2 ^ 40 % 2 ^ 8 ≡ detail (told a)
  pub edition_is : p / 2 ^ 48 % 2 ^ 8 ≡ (shown a).edition

pub read_unpacked : {bytes points row : List ℕ} {a : Result SlipRead Refusal} {points' row' : List ℕ}
    → Read bytes points row a points' row' → Unpacked (packed_read a) a
read_unpacked {a = a} x =
    let n = read_narrow x in
    let l = number_small (told a) in
    record {
      number_is = omega arith;
      m_is = omega arith;
      r_is = omega arith;
      count_is = omega arith;
      k_is = omega arith;
      detail_is = omega arith;
      edition_is = omega arith;
    }
