-- `field::binomial::next_odd` meets its contract: by the bits of its numbers.
use Rattle.theory.proofs.Binomial.{next_above, next_odd, next_even}
use Rattle.field.proofs.binomial.next_odd.Goals as goal

pub returns : goal.returns
returns c = record { above = next_above _ _; odd = next_odd c.args.i c.args.j; even = next_even _ _ c.requires.1 }
