-- `hand_out` refuses a buffer that is too short and fills any other.
use native.Mathlib.Omega.{arith}
use Rattle.text.proofs.Handing.{no_room, handed}
use Rattle.text.proofs.hand_out.Goals as goal

pub returns : goal.returns
returns c = handed _ _ _ (omega (arith, c.if-text-words.false)) c.copy.ensures

pub returns-then-text-words : goal.returns-then-text-words
returns-then-text-words c = no_room _ _ (omega (arith, c.if-text-words.true))
