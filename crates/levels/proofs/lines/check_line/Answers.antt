-- `check_line` meets its contract: 17, 18 or neither, by what was read.
use Prim.Native.Nat.{◌+◌, ◌<◌}
use mathlib.Core.Bool.{true}
use mathlib.Core.Path.{◌≡◌, sym, ◌∙◌}
use native.Mathlib.Omega.{arith}
use lib.ListN.{length, length-drop}
use borrow.Author.Tests.{leb-true, leb-false}
use lib.Seq.{take_all}
use Rattle.defs.specs.Levels.{written}
use Rattle.levels.specs.Lines.{head_line}
use Rattle.levels.proofs.Checking.{line_bad, line_high, line_fine}
use Rattle.levels.proofs.Judging.{end_is, some_is, end_inside, line_behind}
use Rattle.levels.proofs.lines.check_line.Goals as goal
use Rattle.levels.proofs.lines.check_line.Goals.{Else-not-is_written}

-- where it is written as it must be
well : (c : Else-not-is_written) → written (head_line c.args.text.now) ≡ true
well c = sym c.is_written.ensures ∙ c.if-not-is_written.false

inside : (c : Else-not-is_written) → c.read_number-n.result.end < length c.args.text.now
inside c = end_inside _ _ _ c.read_number-n.ensures (well c)

pub is_written-requires : goal.is_written-requires
is_written-requires c = end_is _ _ _ c.read_number-n.ensures

pub returns-then-not-is_written-clause-verdict : goal.returns-then-not-is_written-clause-verdict
returns-then-not-is_written-clause-verdict c = sym (line_bad _ _ _ (sym c.is_written.ensures ∙ c.if-not-is_written.true))

pub returns-then-is_none-clause-verdict : goal.returns-then-is_none-clause-verdict
returns-then-is_none-clause-verdict c =
    sym (line_high _ _ _ (well (goal.at.returns-then-is_none-clause-verdict c).Else-not-is_written)
    (omega (arith, leb-false _ _ (sym (some_is _ _ _ c.read_number-n.ensures) ∙ c.if-is_none.ensures))))

pub overflow_add-result : goal.overflow_add-result
overflow_add-result c = omega (arith, inside (goal.at.overflow_add-result c).Else-not-is_written)

pub slice_bounds-result-count : goal.slice_bounds-result-count
slice_bounds-result-count c = omega (arith, inside (goal.at.slice_bounds-result-count c).Else-not-is_written)

pub slice_bounds-result-start : goal.slice_bounds-result-start
slice_bounds-result-start c = omega (arith, inside (goal.at.slice_bounds-result-start c).Else-not-is_written)

pub returns-clause-verdict : goal.returns-clause-verdict
returns-clause-verdict c =
    sym (line_fine _ _ _ (well (goal.at.returns-clause-verdict c).Else-not-is_written)
    (omega (arith, leb-true _ _ (sym (some_is _ _ _ c.read_number-n.ensures) ∙ c.if-is_none.ensures))))

pub returns-clause-behind : goal.returns-clause-behind
returns-clause-behind c =
    take_all _ _ (omega (arith, length-drop (c.read_number-n.result.end + 1) c.args.text.now))
    ∙ line_behind _ _ _ c.read_number-n.ensures (well (goal.at.returns-clause-behind c).Else-not-is_written)
