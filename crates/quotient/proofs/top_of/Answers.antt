-- `quotient::top_of` meets its contract: what the search from the top passes is 0.
use Rattle.std.proofs.Common.{arith}
use Rattle.std.proofs.lemmas.Grind.{common_steps}
use Rattle.quotient.proofs.top_of.Goals as goal

pub returns : goal.returns
returns c = grind (arith, common_steps)
