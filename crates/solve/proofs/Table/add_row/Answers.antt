-- `solve::Table::add_row` meets its contract.
use Prim.Native.Nat.{ℕ, ◌+◌, ◌*◌}
use native.Mathlib.Omega.{arith}
use Rattle.defs.specs.Field.{add}
use Rattle.solve.specs.Table.{stride}
use Rattle.solve.proofs.Writes.{symbols_added, adds_more, looked_up, wrote_added}
use Rattle.solve.proofs.Table.add_row.Goals as goal

pub invariant_of-self : goal.invariant_of-self
unfolding add
invariant_of-self c = record {
  symbols = symbols_added _ _ _ c.loop-j.self.symbols (omega arith) (rw c.loop-j.invariant.same_extent (c.product_row-row.ensures.small _));
}

pub loop-j-preserved : goal.loop-j-preserved
unfolding add
loop-j-preserved c = let to : ℕ → ℕ = λ i. c.args.r * stride + i in
    let from : ℕ → ℕ = λ i. c.args.p * stride + i in
    let v = c.loop-j.invariant in
    record {
      same_extent = v.same_extent;
      adds = adds_more _ _ to from v.adds (omega arith) (omega arith) (λ j l e. omega arith)
          (rw c.from.ensures (looked_up _ _ to from c.product_row-row.ensures (rw v.same_extent at c.loop-j.self.symbols) v.adds (λ j l e. omega arith)));
    }

pub returns-clause-added : goal.returns-clause-added
returns-clause-added c = wrote_added c.args.r c.args.p c.loop-j.invariant.adds (omega arith) c.args.self.now.extent.cols_fit c.requires.zero_before
