-- The first checks of the call that turns a slip.
use Rattle.std.specs.Prelude.{ℕ, not, List, eqb, ltb, length}
use Rattle.defs.specs.Refusal.{refuse, Verdict, fine}
use Rattle.defs.specs.Slip.{edition_in}
use Rattle.defs.specs.declared.Refusal.TheVariants.{SlipShort, Edition}

-- 10 and 11: the bytes are long enough to tell their edition, and it is this one
unfoldable pub edition_verdict : ℕ → List ℕ → Verdict
edition_verdict from slip = refuse (ltb (length slip) 3) SlipShort (refuse (not (eqb from (edition_in slip))) Edition fine)
