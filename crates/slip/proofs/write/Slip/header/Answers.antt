-- `slip::write::Slip::header` meets its contract: the fields one behind another.
use Rattle.slip.proofs.HeaderBits.{header_number}
use Rattle.slip.proofs.write.Slip.header.Goals as goal

pub returns : goal.returns
returns c =
    let e = c.layout-layout.ensures.value in
    rw (← e)
    (header_number c.layout-layout.result _ _ _ _ (rw e c.args.self.now.fits) c.layout-layout.ensures.laid _ _ _ _ c.field_code-field.ensures.0 c.behind-counted.ensures.0 c.behind-whole.ensures.0 c.behind.ensures.0)
