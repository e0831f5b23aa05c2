-- `check_symbols` meets its contract: what the search answers decides.
use mathlib.Core.Path.{sym, ◌∙◌}
use Rattle.defs.specs.Refusal.{fine}
use Rattle.defs.specs.Encode.{symbols_verdict}
use Rattle.defs.specs.declared.Refusal.TheVariants.{SymbolHigh}
use Rattle.code.proofs.Search.{position_high, found_refused, none_refused}
use Rattle.code.proofs.check_symbols.Goals as goal

pub returns-in-Some : goal.returns-in-Some
unfolding symbols_verdict
returns-in-Some c = sym (found_refused SymbolHigh fine _ _ _ (sym c.in-Some.is ∙ c.first_high.ensures ∙ position_high _ c.args.s.now))

pub returns-in-None : goal.returns-in-None
unfolding symbols_verdict
returns-in-None c = sym (none_refused SymbolHigh fine _ _ (sym c.in-None.is ∙ c.first_high.ensures ∙ position_high _ c.args.s.now))
