-- `slip::write::Slip::pack` meets its contract: byte is the number of the bits of the symbols that were taken.
use Rattle.std.proofs.Common.{◌≡◌, ◌*◌, ◌++◌}
use Rattle.defs.specs.Slip.{all_bits, number_at}
use Rattle.slip.proofs.write.Slip.pack.Given as goal

abbrev pub invariant-loop-j : goal.invariant-loop-j
invariant-loop-j l = l.byte ≡ number_at (l.self.field.m * l.j) (8 * l.i) (all_bits l.self.field.m (l.self.points.now ++ l.self.row.now))
