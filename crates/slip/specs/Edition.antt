-- The two editions: their numbers and their layouts.
use Rattle.std.specs.Prelude.{◌≡◌, false, ℕ, Result, MatchResult}
use Rattle.defs.specs.Slip.{is_edition, layout_of}
use Rattle.defs.specs.declared.Layout.{Layout}
use Rattle.defs.specs.declared.Refusal.{Refusal}
use Rattle.defs.specs.declared.Refusal.TheVariants.{Edition as Unknown}
use Rattle.slip.specs.declared.layout.Edition.{Edition}
use Rattle.slip.specs.declared.layout.Edition.TheVariants.{Old, New}

abbrev pub number : Edition → ℕ
number Old = 1
number New = 2

abbrev pub layout : Edition → Layout
layout E = layout_of (number E)

-- the edition with this number, or 11 where slips of it are not known
abbrev pub Known : ℕ → Result Edition Refusal → Type 0
Known edition r = MatchResult r (λ E. number E ≡ edition) (λ x. (x ≡ Unknown) × (is_edition edition ≡ false))
