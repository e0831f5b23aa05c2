-- The ways out of the check of a code, and what its caller learns.
use Prim.Native.Nat.{ℕ, ◌^◌, ◌≤◌}
use lib.Dec.{leb}
use mathlib.Core.Path.{◌≡◌, refl, sym, ◌∙◌}
use mathlib.Core.List.{List}
use native.Mathlib.Omega.{arith}
use lib.ListN.{length, take, drop, length-append, length-drop}
use Rattle.std.proofs.lemmas.List.{length-take-le}
use lib.Seq.{take-append_seam}
use Rattle.std.specs.List.{position}
use Rattle.std.proofs.Common.{Some, None, Err}
use Rattle.defs.specs.Refusal.{fine, and_then}
use Rattle.defs.specs.Limits.{longest, numbers_verdict, first_twice, code_verdict}
use Rattle.defs.specs.declared.Refusal.TheVariants.{PointHigh, PointTwice}
use Rattle.defs.specs.declared.Code.{Code}
use Rattle.defs.specs.Write.{front}
use Rattle.code.specs.Checked.{found, zeros, padded, points_of, IsCode, CodeOf}
use Rattle.code.proofs.Search.{position_high, found_refused, none_refused}

pub length_zeros : length zeros ≡ longest
unfolding zeros
length_zeros = refl

pub length_padded : (points : List ℕ) → length points ≤ longest → length (padded points) ≡ longest
unfolding padded front
length_padded points h =
    length-append points (drop (length points) zeros) ∙ omega (arith, length-drop (length points) zeros, length_zeros)

pub take_padded : (points : List ℕ) → take (length points) (padded points) ≡ points
unfolding padded front
take_padded points = take-append_seam points (drop (length points) zeros)

-- a code by its type
pub is_code : (c : Code) → IsCode c
is_code c = record {
  inside = c.inside;
  room = c.room;
  counted = length-take-le c.count c.points (omega (arith, c.counted, c.room));
}

pub points_are : (m r k : ℕ) (points : List ℕ) (c : Code) → CodeOf m r k points c → points_of c ≡ points
points_are m r k points c o = rw (o.count_is, o.points_are) (take_padded points)

-- the numbers have passed
module _ (m r k : ℕ) (points : List ℕ) (e : numbers_verdict longest m r k (length points) ≡ fine) where
  pub high_refused : (i : ℕ) → position (λ x. leb (2 ^ m) x) points ≡ Some i → Err (PointHigh i) ≡ code_verdict longest m r k points
  unfolding code_verdict and_then
  high_refused i h = sym (rw e (found_refused PointHigh _ _ _ i (sym h ∙ position_high m points)))

  -- and the symbols
  module _ (low : position (λ x. leb (2 ^ m) x) points ≡ None) where
    pub twice_refused : (i : ℕ) → found (first_twice points) (length points) ≡ Some i → Err (PointTwice i) ≡ code_verdict longest m r k points
    unfolding code_verdict and_then
    twice_refused i h =
        sym (rw e (none_refused PointHigh _ _ _ (sym low ∙ position_high m points) ∙ found_refused PointTwice _ _ _ i (sym h)))

    pub code_fine : found (first_twice points) (length points) ≡ None → fine ≡ code_verdict longest m r k points
    unfolding code_verdict and_then
    code_fine h = sym (rw e (none_refused PointHigh _ _ _ (sym low ∙ position_high m points) ∙ none_refused PointTwice _ _ _ (sym h)))
