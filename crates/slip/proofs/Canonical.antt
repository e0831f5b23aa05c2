-- Bytes that are read as a slip, with nothing in the bits that hold nothing, are the bytes that the writer makes of what was read.
use Prim.Native.Nat.{ℕ, zero, suc, ◌+◌, ◌*◌, ◌-◌, ◌<◌, ◌≤◌}
use mathlib.Core.Path.{◌≡◌, refl, ap, sym, ◌∙◌}
use mathlib.Core.List.{List, [], ◌++◌}
use native.Mathlib.Nat.{zero-add, mul_comm}
use native.Mathlib.Omega.{arith}
use native.Mathlib.Decide.{dec_lt}
use lib.Dec.{lit<}
use lib.ListN.{length, get_or, get_or-eq_default}
use Rattle.defs.specs.Field.{Width}
use Rattle.defs.specs.Place.{least, tab, Symbols}
use Rattle.defs.specs.Slip.{all_bits, number_at, width_of, field_code, head_bits, slip_size, slip_bits, slip_of, edition_in, layout_in, width_in, depth_in, count_in, dimension_in, size_in, symbols_in, points_in, row_in, spare_in, used_in, fill_in}
use Rattle.defs.specs.Read.{read_verdict}
use Rattle.defs.specs.declared.Layout.{Layout}
use Rattle.theory.proofs.Place.{length_tab, tab_append, tab_same, tab_get_d}
use Rattle.theory.proofs.Width.{width_pos}
use Rattle.slip.specs.declared.read.Reader.{Reader}
use Rattle.slip.specs.Edition.{layout}
use Rattle.slip.specs.Head.{header_bits, Fitting}
use Rattle.slip.proofs.Bits.{length_all_bits, all_bits_are, number_nil, number_one, number_same, fields_same, bits_told, symbols_told}
use Rattle.slip.proofs.Layouts.{edition_own}
use Rattle.slip.proofs.HeaderBits.{fitting, header_edition, header_field, header_depth, header_count, header_dimension, header_spare}
use Rattle.slip.proofs.Packed.{byte_is, slip_bits_are, in_header, behind_header}
use Rattle.slip.proofs.Reader.{laid_in, layout_is, Sound, sound, read_checked, read_clean}
use Rattle.slip.proofs.Taken.{length_points}
use Rattle.defs.specs.Refusal.{fine}

-- a field is told by its width
field_told : (f : ℕ) → Width (width_of f) → field_code (width_of f) ≡ f
unfolding field_code width_of least
field_told zero w = refl
field_told (suc zero) w = refl
field_told (suc (suc zero)) w = refl
field_told (suc (suc (suc f))) w = absurd (omega (arith, width_pos _ w))

-- the fill of a slip is below a byte
pub fill_few : (bytes : List ℕ) → used_in bytes ≤ 8 * size_in bytes × (8 * size_in bytes < used_in bytes + 8)
unfolding used_in size_in slip_size
fill_few bytes = omega (arith, (laid_in bytes).whole, mul_comm (width_in bytes) (count_in bytes + depth_in bytes * count_in bytes))

-- where the zero bits and the fill of bytes that were opened were read
module _ (s : Reader) (start : ℕ) (e : start ≡ head_bits (layout s.edition)) where
  pub used_is : start + s.field.m * (s.count + s.r * s.count) ≡ used_in s.bytes.now
  unfolding used_in
  used_is = rw (e, layout_is s.heads, s.heads.m_is, s.heads.r_is, s.heads.count_is)

  pub loose_is : (width spare fill used : ℕ) → width ≡ (layout s.edition).zerobits → used ≡ used_in s.bytes.now → spare ≡ number_at width (start - width) (all_bits 8 s.bytes.now)
      → fill ≡ number_at (8 * s.size - used) used (all_bits 8 s.bytes.now) → spare + fill ≡ spare_in s.bytes.now + fill_in s.bytes.now
  unfolding spare_in fill_in head_bits
  loose_is width spare fill used z u p q =
      let L = layout s.edition in
      let place : start - L.zerobits ≡ 9 + L.countbits + L.kbits = omega arith in
      rw (p, q, z, place, u, layout_is s.heads, s.sized)

-- what was read of bytes, and the bits that hold nothing
module _ (bytes : List ℕ) (are : Symbols 8 bytes) (s : Sound bytes) where
  abbrev S : List ℕ
  S = all_bits 8 bytes

  abbrev L : Layout
  L = layout_in bytes

  abbrev m : ℕ
  m = width_in bytes

  abbrev N : ℕ
  N = count_in bytes + depth_in bytes * count_in bytes

  abbrev H : List ℕ
  H = header_bits L m (depth_in bytes) (dimension_in bytes) (count_in bytes)

  -- where the points begin
  abbrev start : ℕ
  start = head_bits L

  S-are : Symbols 1 S
  S-are = all_bits_are 8 bytes

  body_is : points_in bytes ++ row_in bytes ≡ tab (λ j. number_at m (start + m * j) S) N
  unfolding points_in row_in symbols_in
  body_is = sym (tab_append (λ j. number_at m (start + m * j) S) (count_in bytes) (depth_in bytes * count_in bytes)
      ∙ ap (λ (x : List ℕ). x ++ tab (λ j. number_at m (start + m * (count_in bytes + j)) S) (depth_in bytes * count_in bytes)) (tab_same _ _ (count_in bytes) (λ j l. rw (zero-add j))))

  -- the header that is written has the fields of the one that was read
  fits : Fitting L (depth_in bytes) (dimension_in bytes) (count_in bytes)
  fits = fitting L (laid_in bytes) m _ _ _ s.is_fine

  header_told : spare_in bytes ≡ 0 → number_at start 0 H ≡ number_at start 0 S
  unfolding head_bits edition_in layout_in width_in depth_in count_in dimension_in spare_in
  header_told spare =
      let r = depth_in bytes in
      let k = dimension_in bytes in
      let n = count_in bytes in
      let size : 9 + L.countbits + L.kbits + L.zerobits ≡ 4 + (2 + (3 + (L.countbits + (L.kbits + L.zerobits)))) = omega arith in
      rw size
      (fields_same 4 (2 + (3 + (L.countbits + (L.kbits + L.zerobits)))) 0 H S (header_edition L m r k n (laid_in bytes) ∙ edition_own _ s.known)
      (fields_same 2 (3 + (L.countbits + (L.kbits + L.zerobits))) 4 H S (header_field L m r k n ∙ field_told (number_at 2 4 S) s.numbers.width)
      (fields_same 3 (L.countbits + (L.kbits + L.zerobits)) 6 H S (omega (arith, header_depth L m r k n fits))
      (fields_same L.countbits (L.kbits + L.zerobits) 9 H S (omega (arith, header_count L m r k n fits))
      (fields_same L.kbits L.zerobits (9 + L.countbits) H S (omega (arith, header_dimension L m r k n fits))
      (header_spare L m r k n ∙ sym spare))))))

  pub size_is : slip_size L m (length (points_in bytes) + length (row_in bytes)) ≡ length bytes
  unfolding points_in row_in symbols_in size_in
  size_is = rw (length_tab, length_tab) (sym s.size)

  module _ (header : number_at start 0 (header_bits L m (depth_in bytes) (dimension_in bytes) (length (points_in bytes))) ≡ number_at start 0 S)
      (fill : number_at (8 * length bytes - (start + m * N)) (start + m * N) S ≡ 0) where
    abbrev B : List ℕ
    B = slip_bits L m (depth_in bytes) (dimension_in bytes) (points_in bytes) (row_in bytes)

    B-are : Symbols 1 B
    B-are = slip_bits_are L m (depth_in bytes) (dimension_in bytes) (points_in bytes) (row_in bytes)

    body_size : length (all_bits m (points_in bytes ++ row_in bytes)) ≡ m * N
    body_size = rw body_is (length_all_bits m (tab (λ j. number_at m (start + m * j) S) N) ∙ ap (λ (x : ℕ). m * x) (length_tab _ N))

    -- bit p behind the header
    behind : (q : ℕ) → get_or B (start + q) 0 ≡ get_or (all_bits m (points_in bytes ++ row_in bytes)) q 0
    behind q =
        sym (number_one (start + q) B) ∙ behind_header L m (depth_in bytes) (dimension_in bytes) (points_in bytes) (row_in bytes) 1 q
        ∙ number_one q (all_bits m (points_in bytes ++ row_in bytes))

    bit_told : (p : ℕ) → p < 8 * length bytes → get_or B p 0 ≡ get_or S p 0
    bit_told p l = by_place (dec_lt p start) (dec_lt p (start + m * N))
      where
        filled : start + m * N ≤ p → get_or S p 0 ≡ 0
        filled h =
            let e : start + m * N + (p - (start + m * N)) ≡ p = omega arith in
            let b = bits_told (8 * length bytes - (start + m * N)) (start + m * N) 0 S [] S-are (λ i. lit< tt) (fill ∙ sym (number_nil _ 0)) (p - (start + m * N)) (omega arith) in
            rw e at b

        by_place : Dec (p < start) → Dec (p < start + m * N) → get_or B p 0 ≡ get_or S p 0
        by_place (yes h) d =
            let b = bits_told start 0 0 B S B-are S-are (in_header L m (depth_in bytes) (dimension_in bytes) (points_in bytes) (row_in bytes) start 0 (omega arith) ∙ header) p h in
            rw (zero-add p) at b
        by_place (no h) (yes d) =
            let e : start + (p - start) ≡ p = omega arith in
            ap (λ (x : ℕ). get_or B x 0) (sym e) ∙ behind (p - start) ∙ ap (λ (x : List ℕ). get_or (all_bits m x) (p - start) 0) body_is
            ∙ symbols_told m start N S (width_pos m s.numbers.width) S-are (p - start) (omega arith) ∙ ap (λ (x : ℕ). get_or S x 0) e
        by_place (no h) (no d) =
            let e : start + (p - start) ≡ p = omega arith in
            ap (λ (x : ℕ). get_or B x 0) (sym e) ∙ behind (p - start)
            ∙ get_or-eq_default (all_bits m (points_in bytes ++ row_in bytes)) 0 {n = p - start} (omega (arith, body_size)) ∙ sym (filled (omega arith))

    slip_told : slip_of L m (depth_in bytes) (dimension_in bytes) (points_in bytes) (row_in bytes) ≡ bytes
    unfolding slip_of
    slip_told =
        rw (size_is)
        (tab_same _ (λ i. get_or bytes i 0) (length bytes)
        (λ i l. number_same 8 (8 * i) (8 * i) B S (λ b h. bit_told (8 * i + b) (omega arith)) ∙ byte_is bytes are i)
        ∙ tab_get_d bytes)

-- THE BYTES OF A SLIP THAT IS READ ARE WHAT THE WRITER MAKES OF WHAT WAS READ
pub slip_read_whole : (bytes : List ℕ) → Symbols 8 bytes → (count n : ℕ) → read_verdict bytes count n ≡ fine
    → slip_of (layout_in bytes) (width_in bytes) (depth_in bytes) (dimension_in bytes) (points_in bytes) (row_in bytes) ≡ bytes
unfolding fill_in used_in
slip_read_whole bytes are count n e =
    let s = sound bytes (read_checked bytes count n e) in
    let loose = read_clean bytes count n e in
    slip_told bytes are s
    (rw (length_points bytes) (header_told bytes are s (omega arith)))
    (rw s.size (omega arith))
