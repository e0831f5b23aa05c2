-- `put_number` writes the digits behind what stands already.
use native.Mathlib.Omega.{arith}
use Rattle.text.proofs.Handing.{take_behind}
use Rattle.text.proofs.Text.put_number.Goals as goal

pub returns : goal.returns
returns g c = rw (c.write_digits.ensures.count, c.write_digits.ensures.digits, ← c.self.view_is) (take_behind _ _ _ _ _ (omega arith))
