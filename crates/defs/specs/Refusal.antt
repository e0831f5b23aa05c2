-- The number and the detail of each answer, and how checks follow one another.
use Rattle.std.specs.Prelude.{ℕ, Bool, true, false, List, Result, Err, Ok}
use Rattle.defs.specs.declared.Refusal.{Refusal}
use Rattle.defs.specs.declared.Refusal.TheVariants.{Field, Depth, Points, Dimension, PointHigh, PointTwice, Length, SymbolHigh, TooFar, SlipShort, Edition, SlipLong, SlipBits, RowLong, LevelLine, LevelHigh}

abbrev pub number_of : Refusal → ℕ
number_of Field = 1
number_of Depth = 2
number_of Points = 3
number_of Dimension = 4
number_of (PointHigh i) = 5
number_of (PointTwice i) = 6
number_of Length = 7
number_of (SymbolHigh i) = 8
number_of TooFar = 9
number_of SlipShort = 10
number_of Edition = 11
number_of SlipLong = 12
number_of SlipBits = 13
number_of RowLong = 15
number_of (LevelLine i) = 17
number_of (LevelHigh i) = 18

abbrev pub place_of : Refusal → ℕ
place_of Field = 0
place_of Depth = 0
place_of Points = 0
place_of Dimension = 0
place_of (PointHigh i) = i
place_of (PointTwice i) = i
place_of Length = 0
place_of (SymbolHigh i) = i
place_of TooFar = 0
place_of SlipShort = 0
place_of Edition = 0
place_of SlipLong = 0
place_of SlipBits = 0
place_of RowLong = 0
place_of (LevelLine i) = i
place_of (LevelHigh i) = i

-- what a check finds: nothing, or why the call is refused
abbrev pub Verdict : Type 0
Verdict = Result (Unit {0}) Refusal

abbrev pub fine : Verdict
fine = Ok tt

-- whether a call is refused, and why; what else it answers is left aside
abbrev pub verdict_of : {A : Type 0} → Result A Refusal → Verdict
verdict_of (Ok _) = fine
verdict_of (Err x) = Err x

-- what a call answers: done, with its detail, or refused
abbrev pub Answer : Type 0
Answer = Result ℕ Refusal

abbrev pub number : Answer → ℕ
number (Ok d) = 0
number (Err x) = number_of x

abbrev pub detail : Answer → ℕ
detail (Ok d) = d
detail (Err x) = place_of x

-- x where the test holds, and else what comes after
unfoldable pub refuse : Bool → Refusal → Verdict → Verdict
refuse true x v = Err x
refuse false x v = v

-- the first verdict, and where that is fine the second
unfoldable pub and_then : Verdict → Verdict → Verdict
and_then (Ok _) v = v
and_then (Err x) v = Err x

-- a call that passes its checks is done with the detail d
unfoldable pub answer : Verdict → ℕ → Answer
answer (Ok _) d = Ok d
answer (Err x) d = Err x

-- a buffer that a call writes: a refusal leaves it as it was
unfoldable pub kept : Verdict → List ℕ → List ℕ → List ℕ
kept (Ok _) new old = new
kept (Err x) new old = old
