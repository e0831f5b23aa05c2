-- `solve::Table::spread` meets its contract.
use Prim.Native.Nat.{ℕ, ◌+◌, ◌*◌}
use native.Mathlib.Omega.{arith}
use Rattle.defs.specs.Field.{add}
use Rattle.solve.specs.Table.{stride}
use Rattle.solve.proofs.Writes.{symbols_added, adds_more, looked_up, wrote_spread}
use Rattle.solve.proofs.Table.spread.Goals as goal

pub invariant_of-self : goal.invariant_of-self
unfolding add
invariant_of-self c = record {
  symbols = symbols_added _ _ _ c.loop-i.self.symbols (omega arith) (rw c.loop-i.invariant.same_extent (c.product_row-row.ensures.small _));
}

pub loop-i-preserved : goal.loop-i-preserved
unfolding add
loop-i-preserved c = let to : ℕ → ℕ = λ j. j * stride + c.args.c in
    let from : ℕ → ℕ = λ j. j * stride + c.args.k in
    let v = c.loop-i.invariant in
    record {
      same_extent = v.same_extent;
      adds = adds_more _ _ to from v.adds (omega arith) (omega arith) (λ j l e. omega arith)
          (rw c.from.ensures (looked_up _ _ to from c.product_row-row.ensures (rw v.same_extent at c.loop-i.self.symbols) v.adds (λ j l e. omega arith)));
    }

pub returns-clause-spread : goal.returns-clause-spread
returns-clause-spread c = wrote_spread c.loop-i.invariant.adds (omega arith) c.requires.column
