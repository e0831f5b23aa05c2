-- `slip::read::Reader::numbers` meets its contract: the numbers are those that stand in the header.
use Rattle.defs.specs.Read.{reading}
use Rattle.slip.proofs.read.Reader.numbers.Goals as goal

pub returns : goal.returns
unfolding reading
returns c = let h = c.args.self.now.heads in
    rw (c.number.ensures, h.edition_is, h.m_is, h.r_is, h.count_is, h.k_is)
