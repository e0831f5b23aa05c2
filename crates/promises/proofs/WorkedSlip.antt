-- Slips worked by hand: the row of example 16 of the paper in six bytes of edition 1 and seven of edition 2.
use mathlib.Core.Path.{◌≡◌, refl}
use mathlib.Core.List.{[], ◌∷◌}
use Rattle.defs.specs.Place.{least, tab}
use Rattle.defs.specs.Slip.{bits, all_bits, number_at, width_of, field_code, layout_of, head_bits, slip_bits, slip_size, slip_of}

-- points 0 1 2 3, r 2, k 4, row 1 3 0 3 2 3 2 0: the bytes 10 83 06 1B 73 B8
pub worked_slip : slip_of (layout_of 1) 2 2 4 (0 ∷ 1 ∷ 2 ∷ 3 ∷ []) (1 ∷ 3 ∷ 0 ∷ 3 ∷ 2 ∷ 3 ∷ 2 ∷ 0 ∷ []) ≡ 0x10 ∷ 0x83 ∷ 0x06 ∷ 0x1b ∷ 0x73 ∷ 0xb8 ∷ []
unfolding least tab bits all_bits number_at width_of field_code layout_of head_bits slip_bits slip_size slip_of
worked_slip = refl

-- the same in edition 2: the bytes 20 81 81 80 1B 73 B8
pub worked_new : slip_of (layout_of 2) 2 2 4 (0 ∷ 1 ∷ 2 ∷ 3 ∷ []) (1 ∷ 3 ∷ 0 ∷ 3 ∷ 2 ∷ 3 ∷ 2 ∷ 0 ∷ []) ≡ 0x20 ∷ 0x81 ∷ 0x81 ∷ 0x80 ∷ 0x1b ∷ 0x73 ∷ 0xb8 ∷ []
unfolding least tab bits all_bits number_at width_of field_code layout_of head_bits slip_bits slip_size slip_of
worked_new = refl
