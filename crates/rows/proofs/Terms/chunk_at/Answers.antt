-- `chunk_at` meets its contract: the first j coefficients are written.
use mathlib.Core.Path.{◌∙◌}
use native.Mathlib.Omega.{arith}
use Rattle.rows.proofs.Chunks.{chunk_is}
use Rattle.rows.proofs.Hasse.{zero_chunk}
use Rattle.rows.proofs.Terms.chunk_at.Goals as goal

pub returns : goal.returns
returns c =
    let v = c.loop-j.invariant in
    chunk_is _ _ _ v.size (omega arith) (λ k l. v.written k (omega arith)) (λ k l. v.rest k (omega arith))

pub returns-then-point-eq0 : goal.returns-then-point-eq0
returns-then-point-eq0 c = c.chunk_of.ensures ∙ zero_chunk _ _ _ _ c.args.self.now.message.now c.if-point-eq0.true c.args.self.now.inside c.requires.depth.1 (omega arith)
