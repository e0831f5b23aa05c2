-- `solve::multiples::RowMultiples::of_row` meets its contract.
use mathlib.Core.Path.{◌∙◌}
use Prim.Native.Nat.{◌*◌}
use Rattle.theory.proofs.Place.{zeros_zero, zeros_symbols}
use Rattle.solve.specs.Table.{stride}
use Rattle.solve.proofs.Sixteens.{made}
use Rattle.solve.proofs.multiples.RowMultiples.of_row.Goals as goal

pub invariant_of-multiples : goal.invariant_of-multiples
invariant_of-multiples c = record { symbols = zeros_symbols _ (32 * stride) }

pub copy_row-requires-clause-zero : goal.copy_row-requires-clause-zero
copy_row-requires-clause-zero c = zeros_zero (32 * stride)

pub returns-clause-multiples : goal.returns-clause-multiples
returns-clause-multiples c = let K = c.args.columns in
    let e = c.copy_row.ensures.same_columns in
    let f = c.fill.ensures.same_columns ∙ e in
    let g = c.set_multiple.ensures.same_columns ∙ f in
    made _ _ _ _ K.fit K.field.known c.copy_row.ensures.copied (rw e at c.fill.ensures.filled) (rw f at c.set_multiple.ensures.set) (rw g at c.fill-2.ensures.filled)
