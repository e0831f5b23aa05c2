-- `solve::multiples::RowMultiples::copy_row` meets its contract.
use mathlib.Core.Path.{◌≡◌, ap, ◌∙◌}
use Prim.Native.Nat.{ℕ, ◌+◌, ◌-◌, ◌*◌}
use native.Mathlib.Omega.{arith}
use lib.ListN.{get_or}
use Rattle.solve.specs.Table.{stride}
use Rattle.solve.proofs.Splice.{symbols, inside, outside}
use Rattle.solve.proofs.multiples.RowMultiples.copy_row.Goals as goal

pub invariant_of-self : goal.invariant_of-self
invariant_of-self c = record {
  symbols = symbols _ _ _ _ _ c.args.table.now.entries _ (omega arith) (omega arith) (omega arith) c.copy_from_slice.ensures.after _ c.args.self.now.symbols
      (rw c.requires.same_field c.args.table.now.symbols);
}

pub returns-clause-copied : goal.returns-clause-copied
returns-clause-copied c = let start = c.args.self.now.columns.start in
    let taken = c.copy_from_slice.ensures.after in
    record {
      row = λ j s l.
          let e : c.args.c * stride + start + (1 * stride + j - (stride + start)) ≡ c.args.c * stride + j = omega arith in
          inside _ _ _ _ _ c.args.table.now.entries _ (omega arith) (omega arith) (omega arith) taken (1 * stride + j) (omega arith) (omega arith) ∙ ap (λ (i : ℕ). get_or c.args.table.now.entries i 0) e;
      others = λ i j o l. outside _ _ _ _ _ c.args.table.now.entries _ (omega arith) (omega arith) (omega arith) taken (i * stride + j) (λ h g. o (omega arith)) ∙ c.requires.zero _;
    }
