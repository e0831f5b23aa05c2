-- `slip::write::Slip::size` meets its contract: its points and its row are few.
use Rattle.theory.proofs.Width.{width_top}
use Rattle.slip.proofs.Writer.{held, top}
use Rattle.slip.proofs.write.Slip.size.Goals as goal

pub slip_size-requires : goal.slip_size-requires
slip_size-requires c = (width_top _ c.args.self.now.field.known, held c.args.self.now)

pub returns : goal.returns
returns c = (c.slip_size.ensures, rw c.slip_size.ensures (top c.args.self.now))
