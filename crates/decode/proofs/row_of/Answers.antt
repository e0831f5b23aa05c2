-- `decode::row_of` meets its contract: what is written stands at the front of the array.
use mathlib.Core.Path.{sym}
use lib.Seq.{length-take-le}
use Rattle.decode.proofs.Outcome.{message_within, row_short, writable}
use Rattle.decode.proofs.row_of.Goals as goal

pub slice_bounds-row-end : goal.slice_bounds-row-end
slice_bounds-row-end c = row_short c.requires

pub slice_bounds-write_row-end : goal.slice_bounds-write_row-end
slice_bounds-write_row-end c = sym (length-take-le _ _ (message_within c.requires))

pub slice_bounds-write_row-end-2 : goal.slice_bounds-write_row-end-2
slice_bounds-write_row-end-2 c = sym (length-take-le c.args.n _ (row_short c.requires))

pub write_row-requires : goal.write_row-requires
write_row-requires c = writable c.requires _ (length-take-le c.args.n _ (row_short c.requires))
