-- The byte of each call.
use Rattle.std.specs.Prelude.{◌≡◌, ℕ, Result, MatchResult}
use Rattle.cases.specs.declared.call.Call.{Call}
use Rattle.cases.specs.declared.call.Call.TheVariants.{Encode, Decode, Distance, SlipWrite, SlipRead, Line, RollFirst, ToNew, ToOld, LevelsRead, LevelsWrite}
use Rattle.cases.specs.declared.call.NoCall.{NoCall}

abbrev pub byte_of : Call → ℕ
byte_of Encode = 1
byte_of Decode = 2
byte_of Distance = 3
byte_of SlipWrite = 4
byte_of SlipRead = 5
byte_of Line = 6
byte_of RollFirst = 7
byte_of ToNew = 8
byte_of ToOld = 9
byte_of LevelsRead = 10
byte_of LevelsWrite = 11

-- the call with this byte, or an error with a byte that no call has
abbrev pub Decodes : ℕ → Result Call NoCall → Type 0
Decodes code r = MatchResult r (λ call. byte_of call ≡ code) (λ e. (e.0 ≡ code) × ((call : Call) → byte_of call ≡ code → ⊥))
