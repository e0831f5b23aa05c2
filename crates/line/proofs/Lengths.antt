-- How long the lines are, and that there is room for them.
use Prim.Native.Nat.{ℕ, suc, ◌+◌, ◌*◌, ◌^◌, ◌≤◌, ◌<◌, zero-le}
use mathlib.Core.Path.{◌≡◌, refl}
use mathlib.Core.List.{List, [], ◌∷◌, ◌++◌}
use native.Mathlib.Nat.{mul-suc}
use native.Mathlib.Omega.{arith}
use lib.Dec.{lit<}
use lib.ListN.{length, get_or, length-append}
use Rattle.defs.specs.Refusal.{number_of, number, detail, place_of, Answer}
use Rattle.defs.specs.Limits.{longest}
use Rattle.defs.specs.Text.{decimal}
use Rattle.defs.specs.Line.{spaced, listed, heading, line_of}
use Rattle.defs.specs.declared.Refusal.{Refusal}
use Rattle.defs.specs.declared.Refusal.TheVariants.{Field, Depth, Points, Dimension, PointHigh, PointTwice, Length, SymbolHigh, TooFar, SlipShort, Edition, SlipLong, SlipBits, RowLong, LevelLine, LevelHigh}
use Rattle.line.specs.Text.{room}
use Rattle.text.proofs.Decimal.{length_decimal, decimal_top}
use Rattle.std.proofs.Common.{Err, Ok}

pub length_heading : (a : Answer) → length (heading a) ≡ length (decimal (number a)) + suc (length (decimal (detail a)))
unfolding heading
length_heading a = length-append (decimal (number a)) (32 ∷ decimal (detail a))

pub length_refused : (x : Refusal) (message depth : List ℕ) → length (line_of (Err x) message depth) ≡ length (heading (Err x)) + 1
unfolding line_of
length_refused x message depth = length-append (heading (Err x)) (10 ∷ [])

-- numbers behind spaces, of at most d + 1 digits each
pub length_spaced : (d : ℕ) (s : List ℕ) → ((i : ℕ) → get_or s i 0 < 10 ^ suc d) → length (spaced s) ≤ suc (suc d) * length s
unfolding spaced
length_spaced d [] h = zero-le
length_spaced d (x ∷ s) h =
    omega (arith, length-append (32 ∷ decimal x) (spaced s), length_decimal d x (h 0), length_spaced d s (λ i. h (suc i)), mul-suc (suc (suc d)) (length s))

pub length_listed : (s : List ℕ) → length (listed s) ≡ suc (suc (length (spaced s)))
unfolding listed
length_listed s = refl

pub length_done : (d : ℕ) (message depth : List ℕ)
    → length (line_of (Ok d) message depth) ≡ length (heading (Ok d)) + (length (listed message) + (length (listed depth) + 1))
unfolding line_of
length_done d message depth =
    omega (
      arith,
      length-append (heading (Ok d)) (listed message ++ (listed depth ++ (10 ∷ []))),
      length-append (listed message) (listed depth ++ (10 ∷ [])),
      length-append (listed depth) (10 ∷ []),
    )

pub refusal_small : (x : Refusal) → number_of x < 100
refusal_small Field = lit< tt
refusal_small Depth = lit< tt
refusal_small Points = lit< tt
refusal_small Dimension = lit< tt
refusal_small (PointHigh i) = lit< tt
refusal_small (PointTwice i) = lit< tt
refusal_small Length = lit< tt
refusal_small (SymbolHigh i) = lit< tt
refusal_small TooFar = lit< tt
refusal_small SlipShort = lit< tt
refusal_small Edition = lit< tt
refusal_small SlipLong = lit< tt
refusal_small SlipBits = lit< tt
refusal_small RowLong = lit< tt
refusal_small (LevelLine i) = lit< tt
refusal_small (LevelHigh i) = lit< tt

-- two digits, a space, three digits and a newline
pub refused_short : (x : Refusal) (message depth : List ℕ) → place_of x < longest → length (line_of (Err x) message depth) ≤ room
refused_short x message depth h =
    omega (arith, length_refused x message depth, length_heading (Err x), length_decimal 1 (number_of x) (refusal_small x), length_decimal 2 (place_of x) (omega arith))

-- symbols have three digits at most and depths one; a message that leaves room for damage pays for the total's digits
pub done_short : (d : ℕ) (message depth : List ℕ) → length message + 2 * d ≤ longest → ((i : ℕ) → get_or message i 0 < 1000)
    → length depth ≤ longest → ((i : ℕ) → get_or depth i 0 < 10) → length (line_of (Ok d) message depth) ≤ room
done_short d message depth h m ld p =
    omega (
      arith,
      length_done d message depth,
      length_heading (Ok d),
      length_decimal 0 0 (lit< tt),
      decimal_top d,
      length_listed message,
      length_spaced 2 message m,
      length_listed depth,
      length_spaced 0 depth p,
    )
