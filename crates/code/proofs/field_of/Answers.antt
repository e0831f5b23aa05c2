-- `field_of` meets its contract: a code inside the limits has a width.
use borrow.Author.Rules.{rules}
use Rattle.code.proofs.Known.{code_width}
use Rattle.code.proofs.field_of.Goals as goal

pub invariant_of-result : goal.invariant_of-result
invariant_of-result c = record { known = search (rules, code_width c.args.code.now) }
