-- `quotient::Divisor::divide_at` meets its contract: the coefficient is what the top of rem asks.
use Prim.Native.Nat.{◌+◌, ◌-◌}
use mathlib.Core.Path.{◌≡◌, refl}
use native.Mathlib.Omega.{arith}
use lib.ListN.{length, length-drop}
use lib.Seq.{length-take-le}
use Rattle.theory.proofs.Spans.{span_tab, lent_behind}
use Rattle.quotient.proofs.Division.{divided}
use Rattle.quotient.proofs.Divisor.divide_at.Goals as goal

pub returns : goal.returns
returns c =
    let at = c.args.at in
    let n = length c.args.self.now.q.now in
    let e : at + n - at ≡ n = omega arith in
    let written = rw e at c.add_products.ensures in
    rw e (divided _ _ _ at _ _ _ _ _ c.args.self.now.symbols c.requires.0 c.mul-a.ensures c.product_row-products.ensures
    (λ i l. lent_behind _ at n i refl l)
    (span_tab {base = at} c.requires.1 refl refl (length-take-le _ _ (omega (arith, length-drop at c.args.rem.now, c.requires.1))) written))
