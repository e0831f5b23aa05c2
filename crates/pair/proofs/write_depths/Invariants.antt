-- `pair::write_depths` meets its contract.
use Rattle.pair.specs.Fill.{Powers}
use Rattle.pair.proofs.write_depths.Given as goal

abbrev pub invariant-loop-j : goal.invariant-loop-j
invariant-loop-j l = Powers l.fn.field.m l.point l.j l.n l.fn.rows l.rows
