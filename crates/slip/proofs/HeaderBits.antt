-- The header of a slip over its layout: its bits, the number that they make, and each field of it.
use Prim.Native.Nat.{ℕ, ◌+◌, ◌*◌, ◌-◌, ◌%◌, ◌^◌, ◌<◌}
use mathlib.Core.Path.{◌≡◌, refl, sym, ◌∙◌}
use mathlib.Core.List.{List, ◌++◌, append_assoc}
use native.Mathlib.Nat.{add_assoc, mul-le-mul_right, mod-eq_of_lt, zero-mod}
use native.Mathlib.Omega.{arith}
use lib.Dec.{eqb}
use lib.ListN.{length, length-append}
use Rattle.defs.specs.Field.{Width}
use Rattle.defs.specs.Place.{least, Symbols}
use Rattle.defs.specs.Limits.{numbers_verdict}
use Rattle.defs.specs.Slip.{bits, all_bits, number_at, width_of, field_code, head_bits, slip_bits}
use Rattle.defs.specs.declared.Layout.{Layout}
use Rattle.theory.proofs.Place.{least_le}
use Rattle.theory.proofs.Limits.{numbers_known, numbers_top}
use Rattle.theory.proofs.Width.{by_width}
use Rattle.slip.specs.Laid.{Laid}
use Rattle.slip.specs.Head.{header_bits, Fitting}
use Rattle.slip.proofs.Bits.{length_bits, symbols_append, bits_are, number_fields, number_field, number_past, number_bits, number_next}
use Rattle.defs.specs.Refusal.{fine}

-- numbers that the layout's longest row allows fit its fields
pub fitting : (L : Layout) → Laid L → (m r k count : ℕ) → numbers_verdict L.top m r k count ≡ fine → Fitting L r k count
fitting L laid m r k count e =
    let n = numbers_known L.top m r k count laid.top_low e in
    let top = numbers_top L.top m r k count laid.top_low e in
    record {
      r_pos = n.r_pos;
      r_top = n.r_top;
      count_pos = n.count_pos;
      count_top = omega (arith, laid.count_room, top, mul-le-mul_right count n.r_pos);
      k_pos = n.k_pos;
      k_top = omega (arith, laid.k_room, top, n.k_top);
    }

-- a field has two bits
field_below : (m : ℕ) → field_code m < 4
unfolding field_code
field_below m = omega (arith, least_le (λ field. eqb (width_of field) m) 3)

module _ (L : Layout) (m r k count : ℕ) where
  -- the fields from r - 1, n' - 1 and k - 1 on
  abbrev k_on : List ℕ
  k_on = bits L.kbits (k - 1) ++ bits L.zerobits 0

  abbrev count_on : List ℕ
  count_on = bits L.countbits (count - 1) ++ k_on

  abbrev r_on : List ℕ
  r_on = bits 3 (r - 1) ++ count_on

  abbrev field_on : List ℕ
  field_on = bits 2 (field_code m) ++ r_on

  pub header_length : length (header_bits L m r k count) ≡ head_bits L
  unfolding header_bits head_bits
  header_length =
      omega (
        arith,
        length-append (bits 4 L.edition) field_on,
        length_bits 4 L.edition,
        length-append (bits 2 (field_code m)) r_on,
        length_bits 2 (field_code m),
        length-append (bits 3 (r - 1)) count_on,
        length_bits 3 (r - 1),
        length-append (bits L.countbits (count - 1)) k_on,
        length_bits L.countbits (count - 1),
        length-append (bits L.kbits (k - 1)) (bits L.zerobits 0),
        length_bits L.kbits (k - 1),
        length_bits L.zerobits 0,
      )

  field_are : (v x : ℕ) (t : List ℕ) → Symbols 1 t → Symbols 1 (bits v x ++ t)
  field_are v x t h = symbols_append 1 (bits v x) t (bits_are v x) h

  pub header_are : Symbols 1 (header_bits L m r k count)
  unfolding header_bits
  header_are =
      field_are 4 L.edition field_on
      (field_are 2 (field_code m) r_on
      (field_are 3 (r - 1) count_on
      (field_are L.countbits (count - 1) k_on
      (field_are L.kbits (k - 1) (bits L.zerobits 0) (bits_are L.zerobits 0)))))

  -- each field alone
  pub header_width : Width m → width_of (number_at 2 4 (header_bits L m r k count)) ≡ m
  unfolding header_bits width_of field_code least
  header_width w =
      rw (number_past 2 0 4 L.edition field_on, number_field 2 (field_code m) r_on)
      (by_width (λ v. width_of (field_code v % 4) ≡ v) refl refl refl m w)

  pub header_field : number_at 2 4 (header_bits L m r k count) ≡ field_code m
  unfolding header_bits
  header_field =
      rw (number_past 2 0 4 L.edition field_on, number_field 2 (field_code m) r_on) (mod-eq_of_lt (field_below m))

  pub header_edition : Laid L → number_at 4 0 (header_bits L m r k count) ≡ L.edition
  unfolding header_bits
  header_edition laid = rw (number_field 4 L.edition field_on) (mod-eq_of_lt laid.edition_low)

  -- past the fields of 4, 2 and 3 bits
  past_fixed : (v p : ℕ) → number_at v (9 + p) (header_bits L m r k count) ≡ number_at v p count_on
  unfolding header_bits
  past_fixed v p =
      let e : 9 + p ≡ 4 + (2 + (3 + p)) = omega arith in
      rw (e, number_past v (2 + (3 + p)) 4 L.edition field_on, number_past v (3 + p) 2 (field_code m) r_on, number_past v p 3 (r - 1) count_on)

  past_count : (v p : ℕ) → number_at v (9 + L.countbits + p) (header_bits L m r k count) ≡ number_at v p k_on
  past_count v p = rw (add_assoc 9 L.countbits p, past_fixed v (L.countbits + p), number_past v p L.countbits (count - 1) k_on)

  pub header_spare : number_at L.zerobits (9 + L.countbits + L.kbits) (header_bits L m r k count) ≡ 0
  header_spare =
      let e : 9 + L.countbits + L.kbits ≡ 9 + L.countbits + (L.kbits + 0) = omega arith in
      rw (e, past_count L.zerobits (L.kbits + 0), number_past L.zerobits 0 L.kbits (k - 1) (bits L.zerobits 0), number_bits L.zerobits 0)
      (zero-mod (2 ^ L.zerobits))

  module _ (s : Fitting L r k count) where
    r_low : r - 1 < 8
    r_low = omega (arith, s.r_pos, s.r_top)

    count_low : count - 1 < 2 ^ L.countbits
    count_low = omega (arith, s.count_pos, s.count_top)

    k_low : k - 1 < 2 ^ L.kbits
    k_low = omega (arith, s.k_pos, s.k_top)

    pub header_depth : number_at 3 6 (header_bits L m r k count) + 1 ≡ r
    unfolding header_bits
    header_depth =
        rw (number_past 3 2 4 L.edition field_on, number_past 3 0 2 (field_code m) r_on, number_field 3 (r - 1) count_on, mod-eq_of_lt r_low)
        (omega (arith, s.r_pos))

    pub header_count : number_at L.countbits 9 (header_bits L m r k count) + 1 ≡ count
    header_count =
        rw (past_fixed L.countbits 0, number_field L.countbits (count - 1) k_on, mod-eq_of_lt count_low)
        (omega (arith, s.count_pos))

    pub header_dimension : number_at L.kbits (9 + L.countbits) (header_bits L m r k count) + 1 ≡ k
    header_dimension =
        let e : 9 + L.countbits ≡ 9 + L.countbits + 0 = omega arith in
        rw (e, past_count L.kbits 0, number_field L.kbits (k - 1) (bits L.zerobits 0), mod-eq_of_lt k_low)
        (omega (arith, s.k_pos))

    -- written: edition, field and r - 1, then n' - 1, k - 1 and the zero bits, one behind another
    pub header_number : Laid L → (field counted whole h : ℕ) → field ≡ field_code m
        → counted ≡ ((L.edition * 4 + field) * 8 + (r - 1)) * 2 ^ L.countbits + (count - 1)
        → whole ≡ counted * 2 ^ L.kbits + (k - 1) → h ≡ whole * 2 ^ L.zerobits + 0 → h ≡ number_at (head_bits L) 0 (header_bits L m r k count)
    unfolding header_bits head_bits
    header_number laid field counted whole h f c w e =
        let z = L.zerobits in
        let size : 9 + L.countbits + L.kbits + z ≡ 4 + (2 + (3 + (L.countbits + (L.kbits + z)))) = omega arith in
        e ∙ sym
        (rw (size, number_fields 4 (2 + (3 + (L.countbits + (L.kbits + z)))) L.edition field_on, mod-eq_of_lt laid.edition_low)
        (number_next L.edition 2 (3 + (L.countbits + (L.kbits + z))) (field_code m) r_on (field_below m)
        ∙ number_next (L.edition * 4 + field_code m) 3 (L.countbits + (L.kbits + z)) (r - 1) count_on r_low
        ∙ number_next ((L.edition * 4 + field_code m) * 8 + (r - 1)) L.countbits (L.kbits + z) (count - 1) k_on count_low
        ∙ rw (← f, ← c)
        (number_next counted L.kbits z (k - 1) (bits z 0) k_low ∙ rw (← w, number_bits z 0, zero-mod (2 ^ z)))))

-- the header, and then the points and the row
pub header_first : (L : Layout) (m r k : ℕ) (points w : List ℕ) → slip_bits L m r k points w ≡ header_bits L m r k (length points) ++ all_bits m (points ++ w)
unfolding slip_bits header_bits
header_first L m r k points w = simp append_assoc
