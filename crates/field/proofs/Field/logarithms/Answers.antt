-- `field::Field::logarithms` meets its contract: each table passes the test.
use native.Mathlib.Omega.{arith}
use mathlib.Core.Path.{refl}
use lib.Dec.{lit<}
use Rattle.defs.specs.Field.{add, modulus, times2}
use Rattle.theory.proofs.Generator.{powers, exps4, exps16, exps256}
use Rattle.theory.proofs.Width.{width_8}
use Rattle.field.proofs.Rules.{every, is_logarithm, logarithms_table}
use Rattle.field.proofs.Field.logarithms.Goals as goal

pub returns-in-2 : goal.returns-in-2
unfolding every is_logarithm exps4 powers times2 modulus add
returns-in-2 c = rw c.in-2.is (logarithms_table 2 (lit< tt) exps4 refl refl tt)

pub returns-in-4 : goal.returns-in-4
unfolding every is_logarithm exps16 powers times2 modulus add
returns-in-4 c = rw c.in-4.is (logarithms_table 4 (lit< tt) exps16 refl refl tt)

pub returns-in_default : goal.returns-in_default
unfolding every is_logarithm exps256 powers times2 modulus add
returns-in_default c = rw (width_8 _ c.args.self.known (omega arith) (omega arith)) (logarithms_table 8 (lit< tt) exps256 refl refl tt)
