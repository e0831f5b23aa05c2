-- `slip_line` writes the line of what the decoder answers.
use mathlib.Core.Path.{refl, sym, ◌∙◌}
use lib.Seq.{length-take-le}
use Rattle.defs.specs.Line.{line_of, decoded}
use Rattle.line.specs.Text.{SlipLine}
use Rattle.line.proofs.Lines.{row_short}
use Rattle.line.proofs.slip_line.Goals as goal
use Rattle.line.proofs.slip_line.Goals.{After-decode-a}

row_line : (c : After-decode-a) → SlipLine c.args.s c.args.points.now c.args.row.now (line_of c.decode-a.result c.decode-a.new.message c.decode-a.new.depths)
row_line c = decoded _ _ _ _ _ (length-take-le _ _ c.requires.k_top)
    (length-take-le _ _ c.requires.count_top ∙ sym (length-take-le _ _ c.requires.points_inside)) c.decode-a.ensures refl

pub line_of-requires : goal.line_of-requires
line_of-requires c = row_short _ _ _ _ _ _ (row_line (goal.at.line_of-requires c).After-decode-a)

pub returns : goal.returns
returns c = rw c.line_of.ensures (row_line (goal.at.returns c).After-decode-a)
