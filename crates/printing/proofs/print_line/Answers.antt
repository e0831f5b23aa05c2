-- What `line` says it wrote is within the buffer.
use Rattle.std.proofs.Common.{sym}
use Rattle.std.proofs.lemmas.List.{length-take-le}
use Rattle.line.proofs.Within.{done_within}
use Rattle.printing.proofs.print_line.Goals as goal

pub slice_bounds-text-end : goal.slice_bounds-text-end
slice_bounds-text-end g c = done_within _ _ _ _ _ c.line.ensures c.in-Ok.is

pub slice_bounds-write_all-end : goal.slice_bounds-write_all-end
slice_bounds-write_all-end g c = sym (length-take-le _ _ (done_within _ _ _ _ _ c.line.ensures c.in-Ok.is))
