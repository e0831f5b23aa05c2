-- `write_digits` writes the decimal digits; the measure is the number, of which a tenth is left at each call of itself.
use Rattle.text.proofs.+write_digits.Given as goal

abbrev pub decreases-write_digits : goal.decreases-write_digits
decreases-write_digits l = l.x
