-- A slip that the reader takes: its code is inside the limits, and its row is one that the decoder takes.
use Prim.Native.Nat.{ℕ, ◌+◌, ◌*◌, ◌^◌, ◌<◌}
use mathlib.Core.Path.{◌≡◌, refl, sym, ◌∙◌}
use mathlib.Core.List.{List}
use native.Mathlib.Decide.{dec_lt}
use native.Mathlib.Omega.{arith}
use lib.ListN.{length, get_or, get_or-eq_default}
use lib.Pow.{pow_pos}
use Rattle.defs.specs.Place.{Symbols, tab}
use Rattle.defs.specs.Limits.{Within, Inside}
use Rattle.defs.specs.Decode.{decode_verdict}
use Rattle.defs.specs.Slip.{all_bits, number_at, head_bits, layout_in, width_in, depth_in, count_in, dimension_in, symbols_in, points_in, row_in}
use Rattle.defs.specs.Read.{read_verdict}
use Rattle.theory.proofs.Place.{length_tab, get_d_tab}
use Rattle.theory.specs.Limits.{Limits}
use Rattle.theory.proofs.Limits.{numbers_top, none_twice, limits_within, limits_inside}
use Rattle.theory.proofs.Checks.{decode_fine}
use Rattle.slip.proofs.Bits.{all_bits_are, number_below}
use Rattle.slip.proofs.Front.{length_symbols}
use Rattle.slip.proofs.Reader.{laid_in, Sound, sound, read_checked, read_once}
use Rattle.defs.specs.Refusal.{fine}

module _ (bytes : List ℕ) where
  -- symbols of m bits are below 2 ^ m
  symbols_inside : (past n : ℕ) → Symbols (width_in bytes) (symbols_in bytes past n)
  unfolding symbols_in
  symbols_inside past n i = go (dec_lt i n)
    where
      F : ℕ → ℕ
      F j = number_at (width_in bytes) (head_bits (layout_in bytes) + width_in bytes * (past + j)) (all_bits 8 bytes)

      go : Dec (i < n) → get_or (tab F n) i 0 < 2 ^ width_in bytes
      go (yes l) = rw (get_d_tab F n i l) (number_below (width_in bytes) (head_bits (layout_in bytes) + width_in bytes * (past + i)) (all_bits 8 bytes) (all_bits_are 8 bytes))
      go (no l) = rw (get_or-eq_default (tab F n) 0 {n = i} (omega (arith, length_tab F n))) (pow_pos (width_in bytes))

  points_low : Symbols (width_in bytes) (points_in bytes)
  unfolding points_in
  points_low = symbols_inside 0 (count_in bytes)

  pub row_low : Symbols (width_in bytes) (row_in bytes)
  unfolding row_in
  row_low = symbols_inside (count_in bytes) (depth_in bytes * count_in bytes)

  pub length_points : length (points_in bytes) ≡ count_in bytes
  unfolding points_in
  length_points = length_symbols bytes 0 (count_in bytes)

  pub length_row : length (row_in bytes) ≡ depth_in bytes * count_in bytes
  unfolding row_in
  length_row = length_symbols bytes (count_in bytes) (depth_in bytes * count_in bytes)

  -- whatever room there was for its points and its row
  module _ (count n : ℕ) (is_fine : read_verdict bytes count n ≡ fine) where
    pub read_sound : Sound bytes
    read_sound = sound bytes (read_checked bytes count n is_fine)

    pub limits : Limits (width_in bytes) (depth_in bytes) (dimension_in bytes) (points_in bytes)
    limits = record {
      numbers = rw length_points read_sound.numbers;
      symbols = points_low;
      distinct = none_twice (points_in bytes) (rw length_points (read_once bytes count n is_fine));
    }

    -- also with the longest row of its own edition
    pub within : Within (layout_in bytes).top (width_in bytes) (depth_in bytes) (dimension_in bytes) (points_in bytes)
    within =
        limits_within _ _ _ _ (points_in bytes) limits
        (rw length_points (numbers_top (layout_in bytes).top _ _ _ _ (laid_in bytes).top_low read_sound.is_fine))

    pub inside : Inside (width_in bytes) (depth_in bytes) (dimension_in bytes) (points_in bytes)
    inside = limits_inside _ _ _ _ limits

    pub decodable : decode_verdict (width_in bytes) (depth_in bytes) (dimension_in bytes) (points_in bytes) (row_in bytes) (dimension_in bytes) (count_in bytes) ≡ fine
    decodable = decode_fine _ _ _ (points_in bytes) (row_in bytes) _ _ inside (length_row ∙ rw length_points) refl (sym length_points) row_low
