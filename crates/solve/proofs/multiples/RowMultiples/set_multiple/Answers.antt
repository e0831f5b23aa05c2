-- `solve::multiples::RowMultiples::set_multiple` meets its contract.
use mathlib.Core.Path.{ap, ap₂, ◌∙◌}
use Prim.Native.Nat.{◌+◌, ◌*◌}
use native.Mathlib.Omega.{arith}
use Rattle.defs.specs.Field.{add, times2}
use Rattle.theory.proofs.Field.{add_lt}
use Rattle.solve.specs.Table.{stride}
use Rattle.solve.proofs.Writes.{symbols_set, wrote_more}
use Rattle.solve.proofs.multiples.RowMultiples.set_multiple.Goals as goal

pub invariant_of-self : goal.invariant_of-self
unfolding add
invariant_of-self c = let S = c.loop-j.self.symbols in
    record { symbols = symbols_set _ _ _ S (omega arith) (add_lt _ _ _ (rw c.loop-j.invariant.same_columns c.times2.ensures.small) (S _)) }

pub loop-j-preserved : goal.loop-j-preserved
unfolding add
loop-j-preserved c = let v = c.loop-j.invariant in
    let W = v.wrote in
    record {
      same_columns = v.same_columns;
      wrote = wrote_more (λ i. c.args.x * stride + i) _ W (omega arith) (omega arith) (λ j l e. omega arith)
          (ap₂ add (c.times2.ensures.is ∙ ap (times2 _) (W.outside _ (λ j h l e. omega arith))) (W.outside _ (λ j h l e. omega arith)));
    }
