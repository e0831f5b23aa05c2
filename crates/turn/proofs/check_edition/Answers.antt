-- `check_edition` meets its contract: each way out by its lemma.
use Rattle.std.proofs.Common.{◌∙◌, sym}
use borrow.Author.Tests.{eq-eqb, ne_eqb}
use Rattle.turn.proofs.Turning.{too_short, another, this_one}
use Rattle.turn.proofs.check_edition.Goals as goal

pub returns : goal.returns
returns c = this_one _ _ c.if-slip-lt3.false _ c.edition_in.ensures (eq-eqb _ _ (sym c.number.ensures ∙ c.if-number-edition_in.false))

pub returns-then-number-edition_in : goal.returns-then-number-edition_in
returns-then-number-edition_in c = another _ _ c.if-slip-lt3.false _ c.edition_in.ensures (ne_eqb _ _ (λ e. c.if-number-edition_in.true (c.number.ensures ∙ e)))

pub returns-then-slip-lt3 : goal.returns-then-slip-lt3
returns-then-slip-lt3 c = too_short _ _ c.if-slip-lt3.true
