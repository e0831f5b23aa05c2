-- `write` meets its contract: the chunks of the first i points are written.
use mathlib.Core.Path.{◌≡◌}
use Rattle.rows.proofs.Writing.{written}
use Rattle.rows.proofs.Terms.write.Given as goal

abbrev pub invariant-loop-i : goal.invariant-loop-i
invariant-loop-i l = l.row ≡ written l.self.field.m l.r l.points l.self.message.now l.initial.row l.i
