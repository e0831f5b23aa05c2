-- `decode::seek` meets its contract: what the pair's quotient is gets measured, and that alone is trusted.
use Prim.Native.Nat.{◌≤◌}
use mathlib.Core.Path.{sym}
use native.Mathlib.Omega.{arith}
use lib.ListN.{length}
use lib.Seq.{length-take-le}
use Rattle.defs.specs.Pair.{IsPair}
use Rattle.code.specs.Checked.{points_of}
use Rattle.pair.proofs.Outcome.{enough, short}
use Rattle.decode.proofs.Search.{radius_short, no_pair, dividing, rows_ready, too_far, near_enough}
use Rattle.decode.proofs.seek.Goals as goal
use Rattle.decode.proofs.seek.Goals.{After-row_of-sent, After-second}

-- where its two polynomials are handed on
pair : (c : After-second) → let k = c.args.code.now in IsPair k.m k.r k.k (points_of k) c.args.row.now c.first.result.now c.second.result.now
pair c = rw (c.first.ensures, c.second.ensures) c.in-Some.ensures

-- where the quotient's row is made
row_fits : (c : After-row_of-sent) → length c.args.row.now ≤ length c.row_of-sent.result
row_fits c = omega (arith, short c.requires, c.row_of-sent.ensures.long)

pub radius-reach-requires : goal.radius-reach-requires
radius-reach-requires c = enough c.requires

pub returns-in_default : goal.returns-in_default
returns-in_default c = no_pair c.requires c.in_default.ensures

pub quotient-message-requires : goal.quotient-message-requires
quotient-message-requires c = rw c.field_of.ensures (dividing c.requires _ _ (pair (goal.at.quotient-message-requires c).After-second))

pub slice_bounds-sent-end : goal.slice_bounds-sent-end
slice_bounds-sent-end c = row_fits (goal.at.slice_bounds-sent-end c).After-row_of-sent

pub slice_bounds-compared-end : goal.slice_bounds-compared-end
slice_bounds-compared-end c = sym (length-take-le _ _ (row_fits (goal.at.slice_bounds-compared-end c).After-row_of-sent))

pub invariant_of-compared : goal.invariant_of-compared
invariant_of-compared c = record { chunks = rows_ready c.requires _ _ c.row_of-sent.ensures }

pub returns-then-reach-d : goal.returns-then-reach-d
returns-then-reach-d c =
    too_far c.requires _ _ (pair (goal.at.returns-then-reach-d c).After-second) _ (rw c.field_of.ensures at c.quotient-message.ensures) _ c.row_of-sent.ensures _ c.distance-d.ensures _
    c.radius-reach.ensures (omega (arith, c.if-reach-d.true, radius_short c.requires _ c.radius-reach.ensures))

pub returns : goal.returns
returns c =
    near_enough c.requires _ _ (pair (goal.at.returns c).After-second) _ (rw c.field_of.ensures at c.quotient-message.ensures) _ c.row_of-sent.ensures _ c.distance-d.ensures _
    c.radius-reach.ensures (omega (arith, c.if-reach-d.false))
