-- One row, one slip of each edition: bytes are read exactly when the writer makes them, what is read fixes the bytes, the bits that
-- hold nothing are 0, and a walk over a roll does not look at them.
use Prim.Native.Nat.{ℕ, ◌+◌, ◌*◌, ◌<◌, ◌≤◌}
use mathlib.Core.Path.{◌≡◌, refl, ap, sym, ◌∙◌}
use mathlib.Core.Logic.{◌⊎◌, inl}
use mathlib.Core.List.{List, [], ◌++◌, append-nil}
use native.Mathlib.Omega.{arith}
use lib.ListN.{length, get_or, take}
use lib.Seq.{take_all, drop-length}
use Rattle.defs.specs.Place.{Symbols}
use Rattle.defs.specs.Refusal.{answer, kept, verdict_of, Verdict, fine}
use Rattle.defs.specs.Slip.{all_bits, number_at, head_bits, slip_size, slip_of, edition_in, layout_in, width_in, depth_in, dimension_in, points_in, row_in, used_in}
use Rattle.defs.specs.Write.{front, Written}
use Rattle.defs.specs.Read.{first_verdict_of, first_verdict, head_verdict, read_verdict, reading, Read}
use Rattle.defs.specs.Roll.{roll_verdict, first_part, joined, walk}
use Rattle.defs.specs.declared.Refusal.{Refusal}
use Rattle.defs.specs.declared.SlipRead.{SlipRead}
use Rattle.slip.proofs.Bits.{number_same}
use Rattle.slip.proofs.Canonical.{size_is, slip_read_whole}
use Rattle.slip.proofs.Answered.{read_fine, read_numbers, points_inside, row_inside}
use Rattle.slip.proofs.Taken.{length_points, length_row, row_low, read_sound, within}
use Rattle.slip.proofs.Writer.{writable_fine}
use Rattle.promises.proofs.Header.{SameHead, editions_same, layout_same, numbers_same, size_same, fields_head}
use Rattle.roll.proofs.Parts.{none_found}
use Rattle.promises.proofs.RoundTrip.{round_trip}
use Rattle.promises.proofs.Roll.{rolls_same, first_some}
use Rattle.promises.proofs.Walk.{Made, walked, whole_walk, found_whole, left_none}
use Rattle.std.proofs.Common.{Err, Ok, Result}

-- BYTES THAT THE WRITER MAKES ARE READ, with room for the points and the row
pub made_read : (bytes : List ℕ) (x : Made bytes) (points row points' row' : List ℕ) (a : Result SlipRead Refusal) → length x.points ≤ length points → length x.w ≤ length row
    → Read bytes points row a points' row' → verdict_of a ≡ fine
made_read bytes x points row points' row' a p q t =
    rw (round_trip x.edition x.m x.r x.k x.d x.points x.w x.bytes x.bytes' x.written points row p q a points' row' (rw x.is at t)).0

-- AND BYTES THAT ARE READ ARE MADE BY THE WRITER, from the edition, the code and the row that stand in them
module _ (bytes : List ℕ) (are : Symbols 8 bytes) (points row points' row' : List ℕ) (a : Result SlipRead Refusal) (x : Read bytes points row a points' row') (s : SlipRead) (done : a ≡ Ok s) where
  abbrev taken : read_verdict bytes (length points) (length row) ≡ fine
  taken = read_fine x s done

  pub whole : slip_of (layout_in bytes) (width_in bytes) (depth_in bytes) (dimension_in bytes) (points_in bytes) (row_in bytes) ≡ bytes
  whole = slip_read_whole bytes are _ _ taken

  size : slip_size (layout_in bytes) (width_in bytes) (length (points_in bytes) + length (row_in bytes)) ≡ length bytes
  size = size_is bytes are (read_sound bytes _ _ taken)

  written : Written (edition_in bytes) (width_in bytes) (depth_in bytes) (dimension_in bytes) (points_in bytes) (row_in bytes) bytes (Ok (length bytes)) bytes
  unfolding answer kept front layout_in
  written =
      let v = writable_fine (edition_in bytes) _ _ _ (points_in bytes) (row_in bytes) (length bytes) record {
        known = (read_sound bytes _ _ taken).known;
        within = within bytes _ _ taken;
        row = length_row bytes ∙ ap (λ (c : ℕ). depth_in bytes * c) (sym (length_points bytes));
        room = omega (arith, size);
        symbols = row_low bytes;
      } in
      record { answers = rw (v, size); leaves = rw v (sym (rw whole (rw (drop-length bytes) (append-nil bytes)))) }

  pub read_made : Made bytes
  read_made = record {
    edition = edition_in bytes;
    m = width_in bytes;
    r = depth_in bytes;
    k = dimension_in bytes;
    d = length bytes;
    points = points_in bytes;
    w = row_in bytes;
    bytes = bytes;
    bytes' = bytes;
    written = written;
    is = sym (take_all (length bytes) bytes (omega arith));
  }

-- TWO SLIPS THAT ARE READ WITH EQUAL EDITION, CODE AND ROW ARE EQUAL
module _ (a b : List ℕ) (a_are : Symbols 8 a) (b_are : Symbols 8 b) (points row points' row' points₁ row₁ points₁' row₁' : List ℕ) (p q : Result SlipRead Refusal)
    (x : Read a points row p points' row') (y : Read b points₁ row₁ q points₁' row₁') (s t : SlipRead) (s_done : p ≡ Ok s) (t_done : q ≡ Ok t) where
  pub equal_slips : (s.edition ≡ t.edition) → (s.m ≡ t.m) → (s.r ≡ t.r) → (s.k ≡ t.k) → take s.count points' ≡ take t.count points₁'
      → take (s.r * s.count) row' ≡ take (t.r * t.count) row₁' → a ≡ b
  unfolding reading
  equal_slips o m₁ r₁ u v w =
      let s_at = read_numbers x s s_done in
      let t_at = read_numbers y t t_done in
      let edition_same : edition_in a ≡ edition_in b = rw (s_at, t_at) at o in
      let m_same : width_in a ≡ width_in b = rw (s_at, t_at) at m₁ in
      let r_same : depth_in a ≡ depth_in b = rw (s_at, t_at) at r₁ in
      let k_same : dimension_in a ≡ dimension_in b = rw (s_at, t_at) at u in
      let points_same : points_in a ≡ points_in b = sym (points_inside x s s_done) ∙ (rw (s_at, t_at) at v) ∙ points_inside y t t_done in
      let row_same : row_in a ≡ row_in b = sym (row_inside x s s_done) ∙ (rw (s_at, t_at) at w) ∙ row_inside y t t_done in
      sym (whole a a_are points row points' row' p x s s_done) ∙ rw (editions_same a b edition_same, m_same, r_same, k_same, points_same, row_same) (whole b b_are points₁ row₁ points₁' row₁' q y t t_done)

-- ---- a walk looks at no bit that holds nothing

-- a bit of the numbers in the header, or of a point or a symbol
abbrev pub Told : List ℕ → ℕ → Type 0
Told s p = (p < 9 + (layout_in s).countbits + (layout_in s).kbits) ⊎ ((head_bits (layout_in s) ≤ p) × (p < used_in s))

-- t is s, but for the zero bits and the fill
pub record Alike (s t : List ℕ) : Type 0 where
  pub size : length s ≡ length t
  pub bits : (p : ℕ) → Told s p → get_or (all_bits 8 s) p 0 ≡ get_or (all_bits 8 t) p 0

module _ (s t : List ℕ) (x : Alike s t) where
  field_same : (v p : ℕ) → p + v ≤ 9 + (layout_in s).countbits + (layout_in s).kbits → number_at v p (all_bits 8 s) ≡ number_at v p (all_bits 8 t)
  field_same v p l = number_same v p p (all_bits 8 s) (all_bits 8 t) (λ i b. x.bits (p + i) (inl (omega arith)))

  heads_alike : SameHead t s
  heads_alike = fields_head t s (λ v p l. sym (field_same v p l))

  alike_first : first_verdict t ≡ first_verdict s
  unfolding first_verdict_of
  alike_first =
      let h = heads_alike in
      rw (x.size, h.edition, numbers_same h, layout_same h, size_same h)

  alike_head : head_verdict t ≡ head_verdict s
  unfolding head_verdict
  alike_head = rw (alike_first, x.size, size_same heads_alike)

  alike_roll : roll_verdict t ≡ roll_verdict s
  alike_roll = rolls_same t s (sym x.size) alike_first

  none_alike : length (first_part s) ≡ 0 → length (first_part t) ≡ 0
  none_alike n = go (first_verdict t) refl
    where
      go : (v : Verdict) → first_verdict t ≡ v → length (first_part t) ≡ 0
      go (Ok _) e = absurd (omega (arith, first_some s (sym alike_first ∙ e)))
      go (Err y) e = ap length (none_found t y e)

-- ROLLS THAT DIFFER ONLY THERE are walked into slips of the same sizes, and the walk ends alike; a last slip that is cut may differ there too
pub alike_walk : (roll : List ℕ) (slips : List (List ℕ)) (left : List ℕ) → length slips ≡ length (walk roll).slips
    → ((i : ℕ) → i < length slips → Alike (get_or (walk roll).slips i []) (get_or slips i [])) → Alike (walk roll).left left
    → walk (joined slips ++ left) ≡ record { slips = slips; left = left; ended = (walk roll).ended }
unfolding walk
alike_walk roll slips left n h x =
    rw ((walked roll).ends, ← alike_roll _ _ x)
    (whole_walk slips (λ i l. alike_head _ _ (h i l) ∙ found_whole roll i (omega arith)) left (none_alike _ _ x (left_none roll))
    (length (joined slips ++ left)) (omega arith))
