-- What both layouts of a slip have in common; whatever is shown of a layout is shown of one with these.
use Rattle.std.specs.Prelude.{◌*◌, ◌/◌, ◌^◌, ◌<◌, ◌≤◌, ◌≡◌}
use Rattle.defs.specs.Limits.{longest}
use Rattle.defs.specs.Slip.{head_bits}
use Rattle.defs.specs.declared.Layout.{Layout}

pub record Laid (L : Layout) : Type 0 where
  pub edition_low : L.edition < 16
  pub count_narrow : L.countbits ≤ 8
  pub k_narrow : L.kbits ≤ 8
  pub zero_narrow : L.zerobits ≤ 8
  -- the header is 3 or 4 whole bytes
  pub whole : 8 * (head_bits L / 8) ≡ head_bits L
  pub bytes_bottom : 3 ≤ head_bits L / 8
  pub bytes_top : head_bits L / 8 ≤ 4
  -- what its longest row asks for has room in its fields
  pub top_low : L.top ≤ longest
  pub count_room : L.top ≤ 2 ^ L.countbits
  pub k_room : L.top ≤ 2 ^ L.kbits
