-- `roll_answer` meets its contract: the answer is that of the checks.
use Rattle.std.proofs.Common.{sym, ◌∙◌}
use Rattle.defs.specs.Refusal.{answer}
use Rattle.theory.proofs.Verdict.{answer_done, answer_refused}
use Rattle.roll.proofs.roll_answer.Goals as goal

pub returns : goal.returns
unfolding answer
returns c = rw (answer_done _ _ _ (sym c.first_end.ensures ∙ c.in_default.is))

pub returns-in-Err : goal.returns-in-Err
unfolding answer
returns-in-Err c = rw (answer_refused _ _ _ (sym c.first_end.ensures ∙ c.in-Err.is))
