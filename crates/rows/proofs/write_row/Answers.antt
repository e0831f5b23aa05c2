-- `write_row` meets its contract: the tables hold what the terms are looked up by.
use Rattle.code.proofs.Outcome.{is_code}
use Rattle.code.proofs.Known.{code_numbers, code_symbols}
use Rattle.rows.proofs.Writing.{short}
use Rattle.rows.proofs.write_row.Goals as goal

pub symbol_logs-symbols-requires-clause-symbols : goal.symbol_logs-symbols-requires-clause-symbols
symbol_logs-symbols-requires-clause-symbols c = (rw c.field_of-field.ensures c.requires.message.symbols, short c.args.code.now _ c.requires.message)

pub invariant_of-terms-clause-short : goal.invariant_of-terms-clause-short
invariant_of-terms-clause-short c = short c.args.code.now _ c.requires.message

pub invariant_of-terms-clause-inside : goal.invariant_of-terms-clause-inside
invariant_of-terms-clause-inside c = rw c.field_of-field.ensures c.requires.message.symbols

pub write-requires-clause-points : goal.write-requires-clause-points
write-requires-clause-points c = rw c.field_of-field.ensures (code_symbols (is_code c.args.code.now))

pub write-requires-clause-depth : goal.write-requires-clause-depth
write-requires-clause-depth c = let n = code_numbers (is_code c.args.code.now) in (n.r_pos, n.r_top)
