-- The longest row: 240 symbols for encode, decode and distance and in a slip of edition 2, 128 in one of edition 1.
use Prim.Native.Nat.{ℕ, ◌*◌, ◌/◌, ◌%◌, ◌^◌, ◌<◌, ◌≤◌}
use mathlib.Core.Bool.{true}
use mathlib.Core.Path.{◌≡◌, refl, ◌∙◌}
use mathlib.Core.List.{List}
use native.Mathlib.Omega.{arith}
use lib.ListN.{length}
use borrow.Author.Tests.{lt-ltb, le-ltb, eq-eqb, ne_eqb}
use Rattle.defs.specs.Field.{Width}
use Rattle.defs.specs.Distance.{distance}
use Rattle.defs.specs.Refusal.{refuse, and_then, answer, Answer}
use Rattle.defs.specs.Limits.{deepest, longest, is_width, numbers_verdict, code_verdict, Within, Inside}
use Rattle.defs.specs.Encode.{encode_verdict, Encoded, distance_verdict, distance_answer}
use Rattle.defs.specs.Decode.{decode_verdict, Decoded, refused}
use Rattle.defs.specs.Slip.{is_edition, layout_of, head_bits, slip_size, longest_slip, edition_in, layout_in, width_in, depth_in, count_in, dimension_in}
use Rattle.defs.specs.Write.{write_verdict, Written}
use Rattle.defs.specs.Read.{first_verdict_of, first_verdict, reading, Read}
use Rattle.defs.specs.declared.Refusal.TheVariants.{Points, Length}
use Rattle.defs.specs.declared.Refusal.{Refusal}
use Rattle.defs.specs.declared.SlipRead.{SlipRead}
use Rattle.theory.proofs.Width.{by_width}
use Rattle.theory.proofs.Layouts.{layout_top}
use Rattle.theory.proofs.Limits.{numbers_top, within_known, inside_known, limits_within, limits_inside}
use Rattle.theory.proofs.Verdict.{then_fine}
use Rattle.slip.proofs.Reader.{laid_in}
use Rattle.slip.proofs.Answered.{read_fine, read_numbers}
use Rattle.slip.proofs.Taken.{read_sound}
use Rattle.promises.proofs.Decode.{decode_same}
use Rattle.line.specs.Text.{room}
use Rattle.promises.proofs.Edition.{refused_by}
use Rattle.promises.proofs.Enough.{enough_bytes}
use Rattle.std.proofs.Common.{Err, Ok, Result}

-- so long; of the longest slip so many bytes, and one more decides; and a line has no more than its room
pub figures : (longest ≡ 240) × ((layout_of 1).top ≡ 128) × ((layout_of 2).top ≡ 240) × (longest_slip ≡ 484) × (enough_bytes ≡ 485) × (room ≡ 1448)
unfolding layout_of slip_size head_bits
figures = (refl, refl, refl, refl, refl, refl)

-- ---- rows up to the top of an edition

module _ (edition m r k : ℕ) (points : List ℕ) where
  -- a code is inside the limits of an edition exactly where it is inside the limits and its rows are no longer than the edition's
  pub row_within : Inside m r k points → r * length points ≤ (layout_of edition).top → Within (layout_of edition).top m r k points
  row_within i short = limits_within _ m r k points (inside_known m r k points i) short

  pub within_row : Within (layout_of edition).top m r k points → Inside m r k points × (r * length points ≤ (layout_of edition).top)
  unfolding code_verdict
  within_row e = (
    limits_inside m r k points (within_known _ m r k points (layout_top edition) e),
    numbers_top (layout_of edition).top m r k (length points) (layout_top edition) (then_fine _ _ e).0,
  )

-- so what the reader takes has no longer rows
pub read_row : (bytes points row points' row' : List ℕ) (a : Result SlipRead Refusal) → Read bytes points row a points' row' → (s : SlipRead) → a ≡ Ok s
    → s.r * s.count ≤ (layout_of s.edition).top
unfolding reading layout_in
read_row bytes points row points' row' a x s done =
    let sound = read_sound bytes _ _ (read_fine x s done) in
    rw (read_numbers x s done) (numbers_top (layout_in bytes).top _ _ _ _ (laid_in bytes).top_low sound.is_fine)

-- ---- 3 for a longer row

-- field, depth and points are fine, and a row of them has more symbols than top
pub record Over (top m r count : ℕ) : Type 0 where
  pub width : Width m
  pub r_pos : 0 < r
  pub r_top : r ≤ deepest
  pub count_pos : 0 < count
  pub count_top : count ≤ 2 ^ m
  pub above : top < r * count

numbers_over : (top m r k count : ℕ) → Over top m r count → numbers_verdict top m r k count ≡ Err Points
unfolding numbers_verdict refuse
numbers_over top m r k count o =
    rw (
      by_width (λ m. is_width m ≡ true) refl refl refl m o.width,
      ne_eqb r 0 (omega (arith, o.r_pos)),
      le-ltb deepest r o.r_top,
      ne_eqb count 0 (omega (arith, o.count_pos)),
      le-ltb (2 ^ m) count o.count_top,
      lt-ltb top (r * count) o.above,
    )

module _ (m r k : ℕ) (points : List ℕ) where
  code_over : (top : ℕ) → Over top m r (length points) → code_verdict top m r k points ≡ Err Points
  unfolding code_verdict and_then
  code_over top o = rw (numbers_over top m r k (length points) o)

  -- encode and decode
  module _ (over : Over longest m r (length points)) where
    pub encode_over : (message row : List ℕ) (a : Answer) (row' : List ℕ) → Encoded m r k points message row a row' → a ≡ Err Points
    unfolding encode_verdict and_then answer
    encode_over message row a row' x = x.answers ∙ rw (code_over longest over)

    pub decode_over : (w message depth : List ℕ) (a : Answer) (message' depth' : List ℕ) → Decoded m r k points w message depth a message' depth' → a ≡ Err Points
    unfolding decode_verdict and_then
    decode_over w message depth a message' depth' x =
        (decode_same m r k points w message depth a (Err Points) message' depth' message depth x (refused Points (rw (code_over longest over)) refl refl refl)).0

  -- the writer, by the edition
  pub write_over : (edition : ℕ) → is_edition edition ≡ true → Over (layout_of edition).top m r (length points)
      → (w bytes : List ℕ) (a : Answer) (bytes' : List ℕ) → Written edition m r k points w bytes a bytes' → a ≡ Err Points
  unfolding write_verdict refuse and_then answer
  write_over edition known over w bytes a bytes' x = x.answers ∙ rw (known, code_over (layout_of edition).top over)

-- and the reader, by the edition that it finds
first_over : (bytes : List ℕ) → is_edition (edition_in bytes) ≡ true → head_bits (layout_in bytes) / 8 ≤ length bytes
    → Over (layout_in bytes).top (width_in bytes) (depth_in bytes) (count_in bytes) → first_verdict bytes ≡ Err Points
unfolding first_verdict_of refuse and_then
first_over bytes known whole over =
    rw (
      le-ltb (length bytes) 3 (omega (arith, (laid_in bytes).bytes_bottom)),
      known,
      le-ltb (length bytes) (head_bits (layout_in bytes) / 8) whole,
      numbers_over _ _ _ (dimension_in bytes) _ over,
    )

pub read_over : (bytes : List ℕ) → is_edition (edition_in bytes) ≡ true → head_bits (layout_in bytes) / 8 ≤ length bytes
    → Over (layout_in bytes).top (width_in bytes) (depth_in bytes) (count_in bytes)
    → (points row points' row' : List ℕ) (a : Result SlipRead Refusal) → Read bytes points row a points' row' → a ≡ Err Points
read_over bytes known whole over points row points' row' a x = refused_by bytes points row points' row' a x Points (first_over bytes known whole over)

-- ---- distance

-- rows of one length, at most 240 symbols in whole chunks
pub distance_done : (r : ℕ) (u w : List ℕ) → 0 < r → r ≤ deepest → length u ≡ length w → 0 < length u → length u ≤ longest → length u % r ≡ 0
    → distance_answer r u w ≡ Ok (distance r (length u / r) u w)
unfolding distance_answer distance_verdict refuse answer
distance_done r u w pos top same some short chunks =
    rw (
      ne_eqb r 0 (omega arith),
      le-ltb deepest r top,
      eq-eqb (length u) (length w) same,
      ne_eqb (length u) 0 (omega arith),
      le-ltb longest (length u) short,
      eq-eqb (length u % r) 0 chunks,
    )

-- 7 for longer ones
pub distance_over : (r : ℕ) (u w : List ℕ) → 0 < r → r ≤ deepest → length u ≡ length w → longest < length u → distance_answer r u w ≡ Err Length
unfolding distance_answer distance_verdict refuse answer
distance_over r u w pos top same over =
    rw (
      ne_eqb r 0 (omega arith),
      le-ltb deepest r top,
      eq-eqb (length u) (length w) same,
      ne_eqb (length u) 0 (omega arith),
      lt-ltb longest (length u) over,
    )
