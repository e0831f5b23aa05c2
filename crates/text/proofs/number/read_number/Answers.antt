-- `read_number` reads digit after digit; those before an index make the number so far.
use mathlib.Core.Path.{sym, ◌∙◌}
use native.Mathlib.Omega.{arith}
use Rattle.text.proofs.Numbers.{begun_first, begun_more, begun_stop, begun_last, ascii_digit}
use Rattle.text.proofs.number.read_number.Goals as goal

pub loop-end-init : goal.loop-end-init
loop-end-init c = begun_first _ _

pub grown-value-requires : goal.grown-value-requires
grown-value-requires c = ascii_digit _ ∙ sym c.is_ascii_digit.ensures.value ∙ c.if-not-is_ascii_digit.false

pub loop-end-preserved : goal.loop-end-preserved
loop-end-preserved c =
    begun_more _ _ _ _ c.loop-end.invariant c.loop-end-test.true
    (ascii_digit _ ∙ sym c.is_ascii_digit.ensures.value ∙ c.if-not-is_ascii_digit.false) _ c.grown-value.ensures

pub returns : goal.returns
returns c = begun_last _ _ _ _ c.loop-end.invariant (omega arith)

pub returns-then-not-is_ascii_digit : goal.returns-then-not-is_ascii_digit
returns-then-not-is_ascii_digit c =
    begun_stop _ _ _ _ c.loop-end.invariant c.loop-end-test.true
    (ascii_digit _ ∙ sym c.is_ascii_digit.ensures.value ∙ c.if-not-is_ascii_digit.true)
