-- `field::Field::powers` meets its contract: each table passes the test.
use native.Mathlib.Omega.{arith}
use lib.Dec.{lit<}
use Rattle.defs.specs.Field.{add, modulus, times2}
use Rattle.theory.proofs.Generator.{powers}
use Rattle.theory.proofs.Width.{width_8}
use Rattle.defs.proofs.Search.{both, same}
use Rattle.field.proofs.Rules.{powers_table}
use Rattle.field.proofs.Field.powers.Goals as goal

pub returns-in-2 : goal.returns-in-2
unfolding both same powers times2 modulus add
returns-in-2 c = rw c.in-2.is (powers_table 2 (lit< tt) tt)

pub returns-in-4 : goal.returns-in-4
unfolding both same powers times2 modulus add
returns-in-4 c = rw c.in-4.is (powers_table 4 (lit< tt) tt)

pub returns-in_default : goal.returns-in_default
unfolding both same powers times2 modulus add
returns-in_default c = rw (width_8 _ c.args.self.known (omega arith) (omega arith)) (powers_table 8 (lit< tt) tt)
