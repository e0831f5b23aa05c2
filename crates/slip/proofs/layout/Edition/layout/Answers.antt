-- `slip::layout::Edition::layout` meets its contract: it is what the definition says.
use Rattle.defs.specs.Slip.{layout_of}
use Rattle.slip.proofs.Layouts.{laid}
use Rattle.slip.proofs.layout.Edition.layout.Goals as goal

pub returns-in-Old-clause-value : goal.returns-in-Old-clause-value
unfolding layout_of
returns-in-Old-clause-value c = rw c.in-Old.is

pub returns-in-New-clause-value : goal.returns-in-New-clause-value
unfolding layout_of
returns-in-New-clause-value c = rw c.in-New.is

pub returns-in-Old-clause-laid : goal.returns-in-Old-clause-laid
unfolding layout_of
returns-in-Old-clause-laid c = laid 1

pub returns-in-New-clause-laid : goal.returns-in-New-clause-laid
unfolding layout_of
returns-in-New-clause-laid c = laid 2
