-- `powers` meets its contract: the powers below i are written, and x is the next.
use Prim.Native.Nat.{◌<◌}
use mathlib.Core.Path.{◌∙◌}
use native.Mathlib.Omega.{arith}
use lib.ListN.{length-set}
use lib.Seq.{get_or-set_same, get_or-set_other}
use borrow.Author.Count.{below_more}
use Rattle.std.proofs.Common.{rules}
use Rattle.theory.proofs.Place.{zeros_zero}
use Rattle.rows.proofs.Lookup.{order_top, first_power, next_power}
use Rattle.rows.proofs.powers.Goals as goal

pub loop-i-init : goal.loop-i-init
loop-i-init c = record { size = search rules; written = λ k l. absurd (omega arith); zeros = λ k l. zeros_zero 766 k; next = first_power _ c.args.field.known }

pub loop-i-preserved : goal.loop-i-preserved
loop-i-preserved c =
    let v = c.loop-i.invariant in
    let room : c.loop-i.i < 510 = omega (arith, order_top c.args.field.m c.args.field.known, c.size.ensures) in
    record {
      size = simp length-set v.size;
      written = below_more _ _ (λ k l. get_or-set_other c.loop-i.table c.loop-i.i k c.loop-i.x 0 (omega arith) ∙ v.written k l) (get_or-set_same c.loop-i.table c.loop-i.i c.loop-i.x 0 (omega (arith, v.size)) ∙ v.next.is);
      zeros = λ k l. get_or-set_other c.loop-i.table c.loop-i.i k c.loop-i.x 0 (omega arith) ∙ v.zeros k l;
      next = next_power _ c.args.field.known _ _ _ v.next c.times2-x.ensures;
    }
