-- `write_digits` writes the decimal digits: one, or those of a tenth and the last.
use Prim.Native.Nat.{ℕ, ◌+◌, ◌/◌}
use mathlib.Core.Path.{◌≡◌, ap, sym}
use native.Mathlib.Omega.{arith}
use lib.ListN.{length}
use Rattle.defs.specs.Text.{decimal}
use Rattle.text.proofs.Decimal.{decimal_one, decimal_ten, shorter}
use Rattle.text.proofs.Handing.{front_one, front_more}
use Rattle.text.proofs.+write_digits.Goals as goal
use Rattle.text.proofs.+write_digits.Goals.{Then-x-lt10, Else-x-lt10}

-- one digit; where there are more
one : (t : ℕ) (c : Then-x-lt10 t) → length (decimal c.args.x) ≡ 1
one t c = ap length (decimal_one c.args.x c.if-x-lt10.true)

more : (t : ℕ) (c : Else-x-lt10 t) → length (decimal c.args.x) ≡ length (decimal (c.args.x / 10)) + 1
more t c = shorter c.args.x c.if-x-lt10.false c.ranges.x.fits

pub bounds-bytes-0 : goal.bounds-bytes-0
bounds-bytes-0 t c = omega (arith, one t c)

pub returns-then-x-lt10-clause-count : goal.returns-then-x-lt10-clause-count
returns-then-x-lt10-clause-count t c = sym (one t (goal.at.returns-then-x-lt10-clause-count t c).Then-x-lt10)

pub returns-then-x-lt10-clause-digits : goal.returns-then-x-lt10-clause-digits
returns-then-x-lt10-clause-digits t c =
    rw (decimal_one c.args.x c.if-x-lt10.true)
    (front_one _ _ (omega (arith, one t (goal.at.returns-then-x-lt10-clause-digits t c).Then-x-lt10)))

pub write_digits-count-requires : goal.write_digits-count-requires
write_digits-count-requires t c =
    (omega arith, omega (arith, more t (goal.at.write_digits-count-requires t c).Else-x-lt10))

pub bounds-bytes-count : goal.bounds-bytes-count
bounds-bytes-count t c = omega (arith, more t (goal.at.bounds-bytes-count t c).Else-x-lt10)

pub overflow_add-result : goal.overflow_add-result
overflow_add-result t c = omega (arith, more t (goal.at.overflow_add-result t c).Else-x-lt10)

pub returns-clause-count : goal.returns-clause-count
returns-clause-count t c = omega (arith, more t (goal.at.returns-clause-count t c).Else-x-lt10)

pub returns-clause-digits : goal.returns-clause-digits
returns-clause-digits t c =
    rw (decimal_ten c.args.x c.if-x-lt10.false c.ranges.x.fits, c.write_digits-count.ensures.digits, c.write_digits-count.ensures.count)
    (front_more _ _ _ (omega (arith, more t (goal.at.returns-clause-digits t c).Else-x-lt10)))
