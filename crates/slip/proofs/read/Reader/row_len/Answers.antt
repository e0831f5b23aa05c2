-- `slip::read::Reader::row_len` meets its contract: the row is short.
use Rattle.std.proofs.Common.{arith}
use Rattle.slip.proofs.Reader.{held_few}
use Rattle.slip.proofs.read.Reader.row_len.Goals as goal

pub overflow_mul-result : goal.overflow_mul-result
overflow_mul-result c = omega (arith, held_few c.args.self.now)
