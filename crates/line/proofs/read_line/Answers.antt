-- `read_line` writes the line of a refusal, or of the slip that was read.
use mathlib.Core.Path.{refl}
use mathlib.Core.List.{[]}
use Rattle.std.proofs.Common.{Err}
use Rattle.defs.specs.Line.{Line, line_of}
use Rattle.line.proofs.Lines.{line_short}
use Rattle.line.proofs.Reading.{refused_line, taken, taken_line}
use Rattle.line.proofs.read_line.Goals as goal
use Rattle.line.proofs.read_line.Goals.{In-Err}

refusal : (c : In-Err) → Line c.args.bytes.now (line_of (Err c.in-Err.x) [] [])
refusal c = refused_line _ _ _ _ _ _ refl refl c.slip_read.ensures _ c.in-Err.is

pub line_of-requires : goal.line_of-requires
line_of-requires c = line_short _ _ (refusal (goal.at.line_of-requires c).In-Err)

pub slip_line-requires : goal.slip_line-requires
slip_line-requires c = taken _ _ _ _ _ _ refl refl c.slip_read.ensures _ c.in-Ok.is

pub returns-in-Err : goal.returns-in-Err
returns-in-Err c = rw c.line_of.ensures (refusal (goal.at.returns-in-Err c).In-Err)

pub returns-in-Ok : goal.returns-in-Ok
returns-in-Ok c = taken_line _ _ _ _ _ _ refl refl c.slip_read.ensures _ c.in-Ok.is _ c.slip_line.ensures
