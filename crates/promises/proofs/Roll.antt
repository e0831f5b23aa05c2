-- The first slip of a roll: one outcome, its header alone finds where it ends, what stands behind it changes nothing, and 12 is never answered.
use Prim.Native.Nat.{ℕ, ◌+◌, ◌*◌, ◌<◌, ◌≤◌}
use mathlib.Core.Bool.{Bool, true, ◌||◌}
use mathlib.Core.Path.{◌≡◌, refl, ap, sym, ◌∙◌}
use mathlib.Core.List.{List, [], ◌∷◌, ◌++◌}
use native.Mathlib.Nat.{mul-le-mul}
use native.Mathlib.Decide.{dec_lt}
use native.Mathlib.Omega.{arith}
use lib.Dec.{eqb, ltb, lit≤}
use lib.ListN.{length, take, drop, length-append}
use lib.Seq.{take_all, take-take, take-append_seam, take-append-le, drop-append_seam}
use borrow.Author.Tests.{le-ltb}
use Rattle.defs.specs.Refusal.{number_of, number, refuse, and_then, answer, kept, Answer, Verdict, fine}
use Rattle.defs.specs.Slip.{is_edition, layout_of, head_bits, slip_size, longest_slip, edition_in, layout_in, width_in, depth_in, count_in, size_in}
use Rattle.defs.specs.Read.{first_verdict_of, first_verdict, head_verdict, read_verdict}
use Rattle.defs.specs.Line.{line_of, Line, refused}
use Rattle.defs.specs.Roll.{roll_verdict, first_part, rest_part}
use Rattle.defs.specs.declared.Refusal.{Refusal}
use Rattle.defs.specs.declared.Refusal.TheVariants.{SlipShort}
use Rattle.theory.proofs.Width.{by_width}
use Rattle.theory.proofs.Verdict.{apart, then_fine, answer_refused, Every, every_fine}
use Rattle.slip.proofs.Reader.{numbers_in, laid_in, numbers_are, Begins, header_top, begins, begun, head_fine, sound}
use Rattle.slip.proofs.Refusals.{first_every}
use Rattle.roll.proofs.Parts.{others_first, none_found, parts_join, first_within, rest_left, first_found, first_long}
use Rattle.promises.proofs.Header.{head_bytes, SameHead, layout_same, size_same, numbers_same, head_front, head_part, head_same}
use Rattle.std.proofs.Common.{Err, Ok}

-- ---- one outcome

pub roll_answer_same : (roll : List ℕ) (a b : Answer) → a ≡ answer (roll_verdict roll) 0 → b ≡ answer (roll_verdict roll) 0 → a ≡ b
roll_answer_same roll a b x y = x ∙ sym y

pub roll_parts_same : (roll s t s' t' : List ℕ) → s ≡ first_part roll → t ≡ rest_part roll → s' ≡ first_part roll → t' ≡ rest_part roll → (s ≡ s') × (t ≡ t')
roll_parts_same roll s t s' t' p q p' q' = (p ∙ sym p', q ∙ sym q')

-- ---- the first part

-- a header, and a byte for the point and the symbol that are there at least
size_bottom : (bytes : List ℕ) → numbers_in bytes ≡ fine → head_bytes bytes + 1 ≤ size_in bytes
unfolding size_in slip_size
size_bottom bytes e =
    let n = numbers_are bytes e in
    let symbols = count_in bytes + depth_in bytes * count_in bytes in
    omega (
      arith,
      mul-le-mul {n₁ = 1} {m₁ = 1} {n₂ = symbols} {m₂ = width_in bytes} (omega (arith, n.count_pos))
          (by_width (λ m. 1 ≤ m) (lit≤ tt) (lit≤ tt) (lit≤ tt) (width_in bytes) n.width),
    )

-- a roll that begins with a slip has a first part
pub first_some : (roll : List ℕ) → first_verdict roll ≡ fine → 4 ≤ length (first_part roll)
first_some roll e = omega (arith, first_long roll e, size_bottom roll (begins roll e).is_fine, (laid_in roll).bytes_bottom)

-- an empty roll is done, and both parts are empty
pub empty_done : (roll_verdict [] ≡ fine) × (first_part [] ≡ []) × (rest_part [] ≡ [])
unfolding roll_verdict
empty_done = (refl, none_left (first_part []) (first_within []), none_left (rest_part []) (omega (arith, length-append (first_part []) (rest_part []), ap length (parts_join []))))
  where
    none_left : (s : List ℕ) → length s ≤ 0 → s ≡ []
    none_left [] l = refl
    none_left (b ∷ s) l = absurd (omega arith)

-- on a refusal the first part is empty and the part behind is the whole roll
pub refused_parts : (roll : List ℕ) (x : Refusal) → roll_verdict roll ≡ Err x → (first_part roll ≡ []) × (rest_part roll ≡ roll)
unfolding first_part rest_part kept
refused_parts roll x e = (rw e, rw e)

pub rolls_same : (a b : List ℕ) → length a ≡ length b → first_verdict a ≡ first_verdict b → roll_verdict a ≡ roll_verdict b
unfolding roll_verdict
rolls_same [] [] l e = refl
rolls_same (x ∷ s) (y ∷ t) l e = e
rolls_same [] (y ∷ t) l e = absurd (omega arith)
rolls_same (x ∷ s) [] l e = absurd (omega arith)

-- rolls of one length with equal headers, by the edition of one of them
module _ (a b : List ℕ) (l : length a ≡ length b) (h : take (head_bytes a) a ≡ take (head_bytes a) b) where
  heads_same : head_bytes a ≤ length a → SameHead a b
  heads_same whole = head_same (head_bytes a) a b (omega arith) whole (omega arith) h

  first_same : first_verdict a ≡ first_verdict b
  unfolding first_verdict_of
  first_same = go (dec_lt (length a) (head_bytes a))
    where
      go : Dec (length a < head_bytes a) → first_verdict a ≡ first_verdict b
      go (yes s) = ap first_verdict (sym (take_all (head_bytes a) a (omega arith)) ∙ h ∙ take_all (head_bytes a) b (omega arith))
      go (no s) =
          let q = heads_same (omega arith) in
          rw (l, q.edition, numbers_same q, layout_same q, size_same q)

  by_verdict : (v : Verdict) → first_verdict a ≡ v → first_verdict b ≡ v → length (first_part a) ≡ length (first_part b)
  by_verdict (Ok _) e e' = first_long a e ∙ size_same (heads_same (begins a e).whole) ∙ sym (first_long b e')
  by_verdict (Err x) e e' = ap length (none_found a x e ∙ sym (none_found b x e'))

  heads_decide : (answer (roll_verdict a) 0 ≡ answer (roll_verdict b) 0) × (length (first_part a) ≡ length (first_part b))
  heads_decide = (ap (λ v. answer v 0) (rolls_same a b l first_same), by_verdict (first_verdict b) first_same refl)

-- THE HEADER DECIDES: rolls of one length with equal first four bytes have one answer and one size
pub header_decides : (a b : List ℕ) → length a ≡ length b → take 4 a ≡ take 4 b
    → (answer (roll_verdict a) 0 ≡ answer (roll_verdict b) 0) × (length (first_part a) ≡ length (first_part b))
header_decides a b l h =
    let fewer = (laid_in a).bytes_top in
    heads_decide a b l (sym (take-take (head_bytes a) 4 a fewer) ∙ ap (take (head_bytes a)) h ∙ take-take (head_bytes a) 4 b fewer)

-- and in edition 1 equal first three
pub old_decides : (a b : List ℕ) → length a ≡ length b → edition_in a ≡ 1 → take 3 a ≡ take 3 b
    → (answer (roll_verdict a) 0 ≡ answer (roll_verdict b) 0) × (length (first_part a) ≡ length (first_part b))
unfolding layout_in layout_of head_bits
old_decides a b l e h =
    let three : head_bytes a ≡ 3 = rw e in
    heads_decide a b l (rw three h)

-- ---- what stands behind

-- bytes that begin with a slip still do so in front of others
begins_front : (s t : List ℕ) → Begins s → Begins (s ++ t)
begins_front s t b =
    let h = head_front s t b.whole in
    record {
      long = omega (arith, b.long, length-append s t);
      known = rw h.edition b.known;
      whole = rw (layout_same h) (omega (arith, b.whole, length-append s t));
      is_fine = numbers_same h ∙ b.is_fine;
      size = omega (arith, size_same h, b.size, length-append s t);
    }

-- a slip is found in front of whatever stands behind it
module _ (s t : List ℕ) (e : head_verdict s ≡ fine) where
  pub alone : Begins s
  unfolding head_verdict
  alone = begins s (then_fine (first_verdict s) _ e).0

  front_fine : first_verdict (s ++ t) ≡ fine
  front_fine = begun (s ++ t) (begins_front s t alone)

  pub front_first : first_part (s ++ t) ≡ s
  front_first =
      first_found (s ++ t) front_fine
      ∙ ap (λ n. take n (s ++ t)) (size_same (head_front s t alone.whole) ∙ sym (sound s e).size) ∙ take-append_seam s t

  pub front_rest : rest_part (s ++ t) ≡ t
  front_rest = sym (rest_left (s ++ t)) ∙ ap (λ (u : List ℕ). drop (length u) (s ++ t)) front_first ∙ drop-append_seam s t

-- and what is found is a slip: the reader does not refuse it by 10, 11, 1, 3, 4 or 12
pub first_whole : (roll : List ℕ) → first_verdict roll ≡ fine → head_verdict (first_part roll) ≡ fine
first_whole roll e =
    let s = first_part roll in
    let b = begins roll e in
    let size = first_long roll e in
    let some : head_bytes roll ≤ length s = omega (arith, size, size_bottom roll b.is_fine) in
    let whole : head_bytes (s ++ rest_part roll) ≤ length s = rw (parts_join roll) some in
    let q : SameHead roll s = rw (parts_join roll) at (head_part s (rest_part roll) whole) in
    let first : first_verdict s ≡ fine = begun s record {
      long = omega (arith, first_some roll e);
      known = rw q.edition at b.known;
      whole = rw (layout_same q) at some;
      is_fine = sym (numbers_same q) ∙ b.is_fine;
      size = omega (arith, size_same q, size);
    } in
    sym (head_fine s first (omega (arith, size_same q, size)))

-- ---- with the longest slip in sight the rest of the roll changes nothing

-- so many bytes are never short of their size
unsized : (bytes : List ℕ) → longest_slip ≤ length bytes → (v : Verdict) → numbers_in bytes ≡ v
    → and_then v (refuse (ltb (length bytes) (size_in bytes)) SlipShort fine) ≡ v
unfolding and_then refuse
unsized bytes l (Err x) e = refl
unsized bytes l (Ok _) e = rw (le-ltb (length bytes) (size_in bytes) (omega (arith, header_top bytes e)))

module _ (s t : List ℕ) (l : longest_slip ≤ length s) where
  four : 4 ≤ length s
  unfolding slip_size head_bits
  four = omega arith

  sight_head : SameHead (s ++ t) s
  sight_head = head_front s t (omega (arith, four, (laid_in s).bytes_top))

  verdict_front : first_verdict (s ++ t) ≡ first_verdict s
  unfolding first_verdict_of
  verdict_front =
      let h = sight_head in
      let more : length s ≤ length (s ++ t) = omega (arith, length-append s t) in
      rw (unsized (s ++ t) (omega arith) _ refl, unsized s l _ refl, le-ltb (length (s ++ t)) 3 (omega (arith, four)), le-ltb (length s) 3 (omega (arith, four)), h.edition, numbers_same h)
      (rw (le-ltb (length (s ++ t)) (head_bytes (s ++ t)) (omega (arith, four, (laid_in (s ++ t)).bytes_top)), le-ltb (length s) (head_bytes s) (omega (arith, four, (laid_in s).bytes_top))))

  part_front : (v : Verdict) → first_verdict s ≡ v → first_part (s ++ t) ≡ first_part s
  part_front (Ok _) e =
      first_found (s ++ t) (verdict_front ∙ e)
      ∙ ap (λ n. take n (s ++ t)) (size_same sight_head) ∙ take-append-le (size_in s) s t (begins s e).size ∙ sym (first_found s e)
  part_front (Err x) e = none_found (s ++ t) x (verdict_front ∙ e) ∙ sym (none_found s x e)

  pub in_sight : (answer (roll_verdict (s ++ t)) 0 ≡ answer (roll_verdict s) 0) × (first_part (s ++ t) ≡ first_part s)
  in_sight =
      let e = sym (others_first (s ++ t) (λ z. omega (arith, four, length-append s t))) ∙ verdict_front ∙ others_first s (λ z. omega (arith, four)) in
      (ap (λ v. answer v 0) e, part_front (first_verdict s) refl)

-- ---- the numbers

-- 10, 11, 1, 3 and 4
abbrev pub rolls : ℕ → Bool
rolls n = eqb n 10 || (eqb n 11 || (eqb n 1 || (eqb n 3 || eqb n 4)))

roll_every : (roll : List ℕ) → Every (λ x. rolls (number_of x) ≡ true) (roll_verdict roll)
unfolding roll_verdict
roll_every [] = every_fine
roll_every (b ∷ s) = first_every is_edition (b ∷ s) refl refl refl refl refl

-- a roll is refused by these alone
pub roll_refusals : (roll : List ℕ) (x : Refusal) → answer (roll_verdict roll) 0 ≡ Err x → rolls (number_of x) ≡ true
roll_refusals roll x e = (roll_every roll).of x (answer_refused _ 0 x e)

-- and never by 12
pub never_long : (roll : List ℕ) → number (answer (roll_verdict roll) 0) ≡ 12 → ⊥
unfolding answer
never_long roll e = go (roll_verdict roll) (roll_every roll) e
  where
    go : (v : Verdict) → Every (λ x. rolls (number_of x) ≡ true) v → number (answer v 0) ≡ 12 → ⊥
    go (Ok _) h q = omega arith
    go (Err x) h q = apart (cc (h.of x refl, q))

-- AS FOR A SLIP: the reader refuses the same bytes by the same number, whatever room it is given
pub refused_read : (roll : List ℕ) (x : Refusal) → roll_verdict roll ≡ Err x → (count n : ℕ) → read_verdict roll count n ≡ Err x
unfolding roll_verdict read_verdict head_verdict and_then
refused_read [] x e count n = absurd (apart cc)
refused_read (b ∷ s) x e count n = rw e refl

-- so its line is the reader's
pub refused_line : (roll : List ℕ) (x : Refusal) → answer (roll_verdict roll) 0 ≡ Err x → Line roll (line_of (Err x) [] [])
refused_line roll x e = refused x (refused_read roll x (answer_refused (roll_verdict roll) 0 x e) _ _) refl
