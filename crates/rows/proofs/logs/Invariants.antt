-- `logs` meets its contract: the powers below i have their logarithms.
use Rattle.rows.proofs.Lookup.{Logged}
use Rattle.rows.proofs.logs.Given as goal

abbrev pub invariant-loop-i : goal.invariant-loop-i
invariant-loop-i l = Logged l.fn.field.m l.i l.table
