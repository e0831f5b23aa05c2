-- `slip::write::Slip::fill` meets its contract: the first i places are filled.
use Rattle.std.proofs.Common.{◌≡◌, ◌*◌}
use Rattle.defs.specs.Slip.{number_at, slip_bits}
use Rattle.theory.specs.Fill.{filled}
use Rattle.slip.specs.Edition.{layout}
use Rattle.slip.proofs.write.Slip.fill.Given as goal

abbrev pub invariant-loop-i : goal.invariant-loop-i
invariant-loop-i l = l.byte-items ≡ filled l.initial.byte-items 0 (λ j. number_at 8 (8 * j) (slip_bits (layout l.self.edition) l.self.field.m l.self.r l.self.k l.self.points.now l.self.row.now)) l.i
