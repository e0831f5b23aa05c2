-- `agree` meets its contract: the first r symbols are compared.
use mathlib.Core.Path.{◌∙◌}
use native.Mathlib.Omega.{arith}
use lib.Seq.{length-take-le}
use Rattle.std.proofs.lemmas.List.{get_or-take}
use Rattle.rows.proofs.Chunks.{front_is}
use Rattle.rows.proofs.agree.Goals as goal

pub returns : goal.returns
returns c = let a = c.args in
    c.common_front.ensures ∙ front_is a.r _ _ _ _ (length-take-le a.r a.a (omega arith)) (length-take-le a.r a.b (omega arith)) (λ j l. get_or-take a.r a.a j 0 l) (λ j l. get_or-take a.r a.b j 0 l)
