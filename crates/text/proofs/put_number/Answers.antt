-- `put_number` writes the digits from a place on.
use mathlib.Core.Path.{refl}
use native.Mathlib.Omega.{arith}
use lib.ListN.{length-append, length-take, length-drop}
use Rattle.defs.specs.Write.{front}
use Rattle.text.proofs.Handing.{take_behind}
use Rattle.text.proofs.put_number.Goals as goal

pub returns : goal.returns
unfolding front
returns c = rw (c.write_digits.ensures.count, c.write_digits.ensures.digits) (record {
  size = simp (length-append, length-take, length-drop) (omega (arith, c.requires));
  ends = refl;
  text = take_behind _ _ _ _ _ (omega (arith, c.requires));
})
