-- `slip::read::Reader::take` meets its contract: the first j places are filled.
use Rattle.std.proofs.Common.{◌+◌, ap, ◌∙◌, arith}
use Rattle.defs.specs.Slip.{head_bits}
use Rattle.theory.proofs.Fill.{filled_none, filled_next}
use Rattle.slip.proofs.Front.{symbols_filled}
use Rattle.slip.proofs.Reader.{layout_is, held_few, place_low}
use Rattle.slip.proofs.read.Reader.take.Goals as goal
use Rattle.slip.proofs.read.Reader.take.Goals.{After-head_bits-start, At-loop-j}

pub overflow_add-past : goal.overflow_add-past
overflow_add-past c = omega (arith, held_few c.args.self.now, c.requires)

pub overflow_mul-m : goal.overflow_mul-m
overflow_mul-m c =
    omega (arith, place_low c.args.self.now c.head_bits-start.result (c.args.past + c.loop-j.j) c.head_bits-start.ensures (omega (arith, c.requires)))

pub overflow_add-start : goal.overflow_add-start
overflow_add-start c =
    omega (arith, place_low c.args.self.now c.head_bits-start.result (c.args.past + c.loop-j.j) c.head_bits-start.ensures (omega (arith, c.requires)))

pub loop-j-init : goal.loop-j-init
loop-j-init c = filled_none _ _ _

pub loop-j-preserved : goal.loop-j-preserved
loop-j-preserved c = rw (c.loop-j.invariant, c.number_at.ensures.0) (filled_next _ _ c.loop-j.j c.loop-j-test.true)

pub returns : goal.returns
returns c =
    let h = c.args.self.now.heads in
    c.loop-j.invariant
    ∙ symbols_filled _ _ _ _ c.loop-j.j _ (c.head_bits-start.ensures ∙ ap head_bits (layout_is h)) h.m_is (omega arith)
