-- `solve::multiples::RowMultiples::add_to` meets its contract.
use Prim.Native.Nat.{ℕ, ◌+◌, ◌*◌}
use native.Mathlib.Omega.{arith}
use Rattle.defs.specs.Field.{add}
use Rattle.theory.proofs.Field.{add_lt}
use Rattle.solve.specs.Table.{stride}
use Rattle.solve.proofs.Writes.{symbols_added, adds_more, wrote_added}
use Rattle.solve.proofs.multiples.RowMultiples.add_to.Goals as goal

pub invariant_of-table : goal.invariant_of-table
unfolding add
invariant_of-table c = let S = c.args.self.now.symbols in
    record { symbols = symbols_added _ _ _ c.loop-j.table.symbols (omega arith) (rw (c.loop-j.invariant.same_extent, ← c.requires.same_field) (add_lt _ _ _ (S _) (S _))) }

pub loop-j-preserved : goal.loop-j-preserved
unfolding add
loop-j-preserved c = let to : ℕ → ℕ = λ i. c.args.r * stride + i in
    let from : ℕ → ℕ = λ i. c.args.p * stride + i in
    let v = c.loop-j.invariant in
    record {
      same_extent = v.same_extent;
      adds = adds_more _ _ to from v.adds (omega arith) (omega arith) (λ j l e. omega arith)
          (rw (c.from-low.ensures, c.from-high.ensures, ← c.requires.same_field) (c.requires.multiples.sums _ _ (rw c.requires.same_field c.requires.symbol) (omega arith) (omega arith)));
    }

pub returns-clause-added : goal.returns-clause-added
returns-clause-added c = wrote_added c.args.r c.args.p c.loop-j.invariant.adds (omega arith) c.args.table.now.extent.cols_fit c.requires.zero_before
