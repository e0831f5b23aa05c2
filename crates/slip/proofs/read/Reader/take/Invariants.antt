-- `slip::read::Reader::take` meets its contract: the first j places are filled.
use Rattle.std.proofs.Common.{◌≡◌, ◌+◌, ◌*◌}
use Rattle.defs.specs.Slip.{all_bits, number_at}
use Rattle.theory.specs.Fill.{filled}
use Rattle.slip.proofs.read.Reader.take.Given as goal

abbrev pub invariant-loop-j : goal.invariant-loop-j
invariant-loop-j l = l.out ≡ filled l.initial.out 0 (λ j. number_at l.m (l.start + l.m * (l.past + j)) (all_bits 8 l.self.bytes.now)) l.j
