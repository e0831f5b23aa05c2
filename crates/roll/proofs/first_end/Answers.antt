-- `first_end` meets its contract: the empty roll apart from the others.
use Rattle.std.proofs.Common.{sym, ◌∙◌}
use borrow.Author.Tests.{eqb-true, eqb-false}
use Rattle.roll.proofs.Parts.{empty_end, other_end}
use Rattle.roll.proofs.first_end.Goals as goal

pub returns : goal.returns
returns c = c.first_size.ensures ∙ other_end _ (eqb-false _ _ (sym c.if-is_empty.ensures))

pub returns-then-is_empty : goal.returns-then-is_empty
returns-then-is_empty c = empty_end _ (eqb-true _ _ (sym c.if-is_empty.ensures))
