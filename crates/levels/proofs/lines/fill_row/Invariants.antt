-- `fill_row` meets its contract: the chunks of the lines before what is left stand in the row.
use Prim.Native.Nat.{◌*◌, ◌^◌}
use Rattle.levels.proofs.Filling.{Filling}
use Rattle.levels.proofs.lines.fill_row.Given as goal

abbrev pub invariant-loop-i : goal.invariant-loop-i
invariant-loop-i l = Filling l.text (2 ^ l.scale.field.m) l.scale.r (l.i * l.r) l.rest l.row
