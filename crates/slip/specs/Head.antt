-- The header: its bits, the numbers that fit its fields, and those that it holds.
use Rattle.std.specs.Prelude.{ℕ, ◌-◌, ◌^◌, ◌<◌, ◌≤◌, ◌≡◌, List, ◌++◌}
use Rattle.defs.specs.Slip.{bits, field_code, edition_in, width_in, depth_in, count_in, dimension_in}
use Rattle.defs.specs.declared.Layout.{Layout}
use Rattle.slip.specs.declared.layout.Edition.{Edition}
use Rattle.slip.specs.Edition.{number}

-- what stands before the points
unfoldable pub header_bits : Layout → ℕ → ℕ → ℕ → ℕ → List ℕ
header_bits L m r k count = bits 4 L.edition ++ (bits 2 (field_code m) ++ (bits 3 (r - 1)
    ++ (bits L.countbits (count - 1) ++ (bits L.kbits (k - 1) ++ bits L.zerobits 0))))

-- of 3 bits for r - 1, and of the layout's for n' - 1 and k - 1
pub record Fitting (L : Layout) (r k count : ℕ) : Type 0 where
  pub r_pos : 0 < r
  pub r_top : r ≤ 8
  pub count_pos : 0 < count
  pub count_top : count ≤ 2 ^ L.countbits
  pub k_pos : 0 < k
  pub k_top : k ≤ 2 ^ L.kbits

-- an edition and numbers that stand in the header of the bytes
pub record Heads (bytes : List ℕ) (E : Edition) (m r count k : ℕ) : Type 0 where
  pub edition_is : number E ≡ edition_in bytes
  pub m_is : m ≡ width_in bytes
  pub r_is : r ≡ depth_in bytes
  pub count_is : count ≡ count_in bytes
  pub k_is : k ≡ dimension_in bytes
