-- `pair::add_multiple` meets its contract.
use Rattle.pair.specs.Fill.{Added}
use Rattle.pair.proofs.add_multiple.Given as goal

abbrev pub invariant-loop-j : goal.invariant-loop-j
invariant-loop-j l = Added l.fn.field.m l.x l.b l.j l.s0 l.s1 l.fn.rows l.rows
