-- `pair::write_system` meets its contract.
use Prim.Native.Nat.{◌+◌, ◌*◌, ◌-◌, ◌≤◌}
use mathlib.Core.Path.{◌≡◌, refl, ◌∙◌}
use native.Mathlib.Nat.{suc-mul}
use native.Mathlib.Omega.{arith}
use lib.ListN.{length, take, drop, length-take, length-drop}
use Rattle.defs.specs.Limits.{longest}
use Rattle.theory.proofs.Order.{eq_lt}
use Rattle.code.proofs.Outcome.{is_code}
use Rattle.code.proofs.Known.{code_numbers, code_symbols, code_point}
use Rattle.solve.specs.Table.{stride}
use Rattle.theory.proofs.Spans.{span_part, lent_behind}
use Rattle.pair.proofs.Systems.{zero_shape, chunk_fits, system_none, system_more, system_all}
use Rattle.pair.proofs.write_system.Goals as goal
use Rattle.pair.proofs.write_system.Goals.{In-loop-i}

-- a turn's chunk ends within the row, and so its rows end within the table
ends : (c : In-loop-i) → (c.loop-i.i * c.args.code.now.r + c.args.code.now.r ≤ length c.args.row.now) × (length c.args.row.now ≤ longest)
ends c =
    let n = code_numbers (is_code c.args.code.now) in
    (omega (arith, chunk_fits c.args.code.now.r c.loop-i.i c.args.code.now.count c.loop-i-test.true, c.requires.row.size), omega (arith, n.row_top, c.requires.row.size))

chunk_long : (c : In-loop-i) → let at = c.loop-i.i * c.args.code.now.r in length (take (at + c.args.code.now.r - at) (drop at c.args.row.now)) ≡ c.args.code.now.r
chunk_long c = simp (length-take, length-drop) (omega (arith, ends c))

pub loop-i-init : goal.loop-i-init
loop-i-init c = (system_none (zero_shape _ c.field_of-field.result.known c.told-t c.requires.zeros), λ k l. c.requires.zeros k)

pub loop-i-preserved : goal.loop-i-preserved
loop-i-preserved c =
    let C = c.write_chunk.ensures in
    let here = (goal.at.loop-i-preserved c).In-loop-i in
    let at = c.loop-i.i * c.args.code.now.r in
    let n = (at + c.args.code.now.r) * stride - at * stride in
    let S = span_part {t₀ = c.loop-i.t} {base = at * stride} {n = n} c.write_chunk.new.rows (omega (arith, ends here, c.loop-i.invariant.0.shape.size)) refl refl
    (omega (arith, C.size, chunk_long here)) (λ a l. refl) in (
      system_more _ c.args.sizes.fit (code_point (is_code c.args.code.now) c.loop-i.i c.loop-i-test.true) (chunk_long here) (omega arith)
          (λ a l. lent_behind _ _ _ a refl (omega arith)) c.loop-i.invariant.0 C S,
      λ k l. S.outside k (λ a i e. omega (arith, suc-mul c.loop-i.i c.args.code.now.r)) ∙ c.loop-i.invariant.1 k (omega (arith, suc-mul c.loop-i.i c.args.code.now.r)),
    )

pub returns : goal.returns
returns c = rw c.field_of-field.ensures at (system_all {n = c.args.code.now.count} (omega arith) c.loop-i.invariant.0)

pub overflow_mul-rows : goal.overflow_mul-rows
overflow_mul-rows c = omega (arith, ends c)

pub overflow_mul-rows-in-loop-i : goal.overflow_mul-rows-in-loop-i
overflow_mul-rows-in-loop-i c = omega (arith, ends c)

pub slice_bounds-rows-end : goal.slice_bounds-rows-end
slice_bounds-rows-end c = omega (arith, ends (goal.at.slice_bounds-rows-end c).In-loop-i)

pub write_chunk-requires-clause-depths : goal.write_chunk-requires-clause-depths
write_chunk-requires-clause-depths c =
    omega (arith, (code_numbers (is_code c.args.code.now)).r_pos, chunk_long (goal.at.write_chunk-requires-clause-depths c).In-loop-i)

pub write_chunk-requires-clause-point : goal.write_chunk-requires-clause-point
write_chunk-requires-clause-point c =
    let code = is_code c.args.code.now in
    rw c.field_of-field.ensures (eq_lt (code_point code c.loop-i.i c.loop-i-test.true) (code_symbols code c.loop-i.i))
