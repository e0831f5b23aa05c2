-- `store` meets its contract: the front of the chunk is copied.
use native.Mathlib.Omega.{arith}
use Rattle.rows.proofs.Writing.{part_filled}
use Rattle.rows.proofs.store.Goals as goal

pub returns : goal.returns
returns c = part_filled c.args.row.now c.args.chunk _ _ _ _ (omega arith) (omega arith) c.copy_from_slice.ensures.after
