-- What a slip that is written has: its bits, its size and its bytes.
use Rattle.std.specs.Prelude.{ℕ, ◌+◌, List, length}
use Rattle.defs.specs.Slip.{slip_bits, slip_size, slip_of}
use Rattle.slip.specs.declared.write.Slip.{Slip}
use Rattle.slip.specs.Edition.{layout}

abbrev pub bits_of : Slip → List ℕ
bits_of s = slip_bits (layout s.edition) s.field.m s.r s.k s.points.now s.row.now

abbrev pub size_of : Slip → ℕ
size_of s = slip_size (layout s.edition) s.field.m (length s.points.now + length s.row.now)

abbrev pub bytes_of : Slip → List ℕ
bytes_of s = slip_of (layout s.edition) s.field.m s.r s.k s.points.now s.row.now
