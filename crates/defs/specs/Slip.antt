-- Slips of both editions: bit-packed, the most significant bit first.
use Rattle.std.specs.Prelude.{ℕ, zero, suc, ◌+◌, ◌*◌, ◌-◌, ◌/◌, ◌%◌, ◌^◌, Bool, cond, ◌||◌, List, [], ◌∷◌, ◌++◌, eqb, length, get_or}
use Rattle.defs.specs.Place.{least, tab}
use Rattle.defs.specs.Limits.{longest}
use Rattle.defs.specs.declared.Layout.{Layout}

-- the w low bits of x
unfoldable pub bits : ℕ → ℕ → List ℕ
bits zero x = []
bits (suc w) x = x / 2 ^ w % 2 ∷ bits w x

-- the bits of numbers of w bits each, one behind another
unfoldable pub all_bits : ℕ → List ℕ → List ℕ
all_bits w [] = []
all_bits w (x ∷ s) = bits w x ++ all_bits w s

-- the number that w bits make, from place p on; past the end stands 0
unfoldable pub number_at : ℕ → ℕ → List ℕ → ℕ
number_at zero p s = 0
number_at (suc w) p s = get_or s p 0 * 2 ^ w + number_at w (suc p) s

-- the fields 0, 1, 2 have m of 2, 4, 8; there is no field 3, and 0 is no width
unfoldable pub width_of : ℕ → ℕ
width_of field = get_or (2 ∷ 4 ∷ 8 ∷ []) field 0

-- the field with this m, and 3 where there is none
unfoldable pub field_code : ℕ → ℕ
field_code m = least (λ field. eqb (width_of field) m) 3

-- the two layouts
abbrev pub first_layout : Layout
first_layout = record { edition = 1; countbits = 7; kbits = 7; zerobits = 1; top = 128 }

abbrev pub second_layout : Layout
second_layout = record { edition = 2; countbits = 8; kbits = 8; zerobits = 7; top = longest }

abbrev pub is_edition : ℕ → Bool
is_edition edition = eqb edition 1 || eqb edition 2

-- the layout of an edition; which one it is where the edition is neither 1 nor 2 doesn't matter, as 11 comes before
unfoldable pub layout_of : ℕ → Layout
layout_of edition = cond (eqb edition 2) second_layout first_layout

-- edition, field, r - 1, n' - 1, k - 1 and the zero bits; then the points and the row
unfoldable pub slip_bits : Layout → ℕ → ℕ → ℕ → List ℕ → List ℕ → List ℕ
slip_bits L m r k points w = bits 4 L.edition ++ (bits 2 (field_code m) ++ (bits 3 (r - 1)
    ++ (bits L.countbits (length points - 1) ++ (bits L.kbits (k - 1) ++ (bits L.zerobits 0
    ++ all_bits m (points ++ w))))))

-- the bits before the points: 24 and 32
unfoldable pub head_bits : Layout → ℕ
head_bits L = 9 + L.countbits + L.kbits + L.zerobits

-- and their bytes: 3 and 4
abbrev pub head_size : Layout → ℕ
head_size L = head_bits L / 8

-- the bytes of a slip with so many points and symbols in all
unfoldable pub slip_size : Layout → ℕ → ℕ → ℕ
slip_size L m symbols = head_size L + (symbols * m + 7) / 8

-- and of the longest one
abbrev pub longest_slip : ℕ
longest_slip = slip_size second_layout 8 (2 * longest)

-- the slip: eight of these bits to a byte, 0 behind them
unfoldable pub slip_of : Layout → ℕ → ℕ → ℕ → List ℕ → List ℕ → List ℕ
slip_of L m r k points w =
    tab (λ i. number_at 8 (8 * i) (slip_bits L m r k points w)) (slip_size L m (length points + length w))

-- what stands in bytes that are read as a slip
unfoldable pub edition_in : List ℕ → ℕ
edition_in bytes = number_at 4 0 (all_bits 8 bytes)

unfoldable pub layout_in : List ℕ → Layout
layout_in bytes = layout_of (edition_in bytes)

unfoldable pub width_in : List ℕ → ℕ
width_in bytes = width_of (number_at 2 4 (all_bits 8 bytes))

unfoldable pub depth_in : List ℕ → ℕ
depth_in bytes = number_at 3 6 (all_bits 8 bytes) + 1

unfoldable pub count_in : List ℕ → ℕ
count_in bytes = number_at (layout_in bytes).countbits 9 (all_bits 8 bytes) + 1

unfoldable pub dimension_in : List ℕ → ℕ
dimension_in bytes = number_at (layout_in bytes).kbits (9 + (layout_in bytes).countbits) (all_bits 8 bytes) + 1

unfoldable pub size_in : List ℕ → ℕ
size_in bytes = slip_size (layout_in bytes) (width_in bytes) (count_in bytes + depth_in bytes * count_in bytes)

-- n symbols behind the header, past the first ones
unfoldable pub symbols_in : List ℕ → ℕ → ℕ → List ℕ
symbols_in bytes past n =
    tab (λ j. number_at (width_in bytes) (head_bits (layout_in bytes) + width_in bytes * (past + j)) (all_bits 8 bytes)) n

unfoldable pub points_in : List ℕ → List ℕ
points_in bytes = symbols_in bytes 0 (count_in bytes)

unfoldable pub row_in : List ℕ → List ℕ
row_in bytes = symbols_in bytes (count_in bytes) (depth_in bytes * count_in bytes)

-- what stands in the bits that hold nothing: the zero bits, and the fill behind the last symbol
unfoldable pub spare_in : List ℕ → ℕ
spare_in bytes = number_at (layout_in bytes).zerobits (9 + (layout_in bytes).countbits + (layout_in bytes).kbits) (all_bits 8 bytes)

unfoldable pub used_in : List ℕ → ℕ
used_in bytes = head_bits (layout_in bytes) + width_in bytes * (count_in bytes + depth_in bytes * count_in bytes)

unfoldable pub fill_in : List ℕ → ℕ
fill_in bytes = number_at (8 * size_in bytes - used_in bytes) (used_in bytes) (all_bits 8 bytes)
