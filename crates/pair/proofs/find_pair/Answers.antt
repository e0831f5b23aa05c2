-- `pair::find_pair` meets its contract.
use Rattle.theory.proofs.Place.{zeros_zero}
use Rattle.code.proofs.Outcome.{is_code}
use Rattle.code.proofs.Known.{code_numbers}
use Rattle.solve.specs.Table.{table_size}
use Rattle.pair.proofs.Outcome.{enough, short, found_pair, found_none}
use Rattle.pair.proofs.find_pair.Goals as goal

pub of-sizes-requires-clause-message : goal.of-sizes-requires-clause-message
of-sizes-requires-clause-message c = ((code_numbers (is_code c.args.code.now)).k_pos, enough c.requires)

pub of-sizes-requires-clause-row : goal.of-sizes-requires-clause-row
of-sizes-requires-clause-row c = short c.requires

pub invariant_of-table : goal.invariant_of-table
invariant_of-table c = record { rows_fit = short c.requires; cols_fit = c.of-sizes.result.fit }

pub write_system-requires-clause-zeros : goal.write_system-requires-clause-zeros
write_system-requires-clause-zeros c = zeros_zero table_size

pub returns : goal.returns
returns c =
    found_pair c.requires c.of-sizes.ensures.s0 c.of-sizes.ensures.s1 c.write_system.ensures _ _ (rw c.field_of.ensures at c.in-Some.ensures.answers)
    c.unknowns.ensures c.unknowns-2.ensures

pub returns-in_default : goal.returns-in_default
returns-in_default c =
    found_none c.requires c.of-sizes.ensures.s0 c.of-sizes.ensures.s1 c.write_system.ensures (rw c.field_of.ensures at c.in_default.ensures.answers)
