-- One outcome: two packed answers that a call's contract allows are equal, and so are the buffers.
use Prim.Native.Nat.{ℕ}
use mathlib.Core.Path.{◌≡◌, ap, sym, ◌∙◌}
use mathlib.Core.List.{List}
use Rattle.defs.specs.Encode.{distance_answer}
use Rattle.promises.proofs.Decode.{decode_same}
use Rattle.promises.proofs.Slip.{written_same, read_same}
use Rattle.promises.proofs.Line.{lined_unique}
use Rattle.promises.proofs.Turn.{turned_same}
use Rattle.promises.proofs.Levels.{levels_read_same, levels_write_same}
use Rattle.plq.specs.Packed.{
  packed,
  packed_roll,
  Packs,
  PackedEncoded,
  PackedDecoded,
  PackedWritten,
  PackedRead,
  PackedLined,
  PackedTurned,
  PackedLevelsRead,
  PackedLevelsWritten,
}

-- equal answers are packed alike
packs_same : {A : Type 0} {pack : A → ℕ} {C C' : A → Type 0} {p q : ℕ} (x : Packs pack C p) (y : Packs pack C' q) → x.answer ≡ y.answer → p ≡ q
packs_same {pack = pack} x y e = x.packs ∙ ap pack e ∙ sym y.packs

pub packed_encode_same : {m r k : ℕ} {points message row : List ℕ} {p q : ℕ} {s t : List ℕ}
    → PackedEncoded m r k points message row p s → PackedEncoded m r k points message row q t → (p ≡ q) × (s ≡ t)
packed_encode_same x y = (packs_same x y (x.call.answers ∙ sym y.call.answers), x.call.leaves ∙ sym y.call.leaves)

pub packed_decode_same : (m r k : ℕ) (points w message depth : List ℕ) (p q : ℕ) (s t u v : List ℕ)
    → PackedDecoded m r k points w message depth p s t → PackedDecoded m r k points w message depth q u v → (p ≡ q) × (s ≡ u) × (t ≡ v)
packed_decode_same m r k points w message depth p q s t u v x y =
    let e = decode_same m r k points w message depth x.answer y.answer s t u v x.call y.call in
    (packs_same x y e.0, e.1, e.2)

pub packed_distance_same : (r : ℕ) (u w : List ℕ) {p q : ℕ} → p ≡ packed (distance_answer r u w) → q ≡ packed (distance_answer r u w) → p ≡ q
packed_distance_same r u w x y = x ∙ sym y

pub packed_write_same : {edition m r k : ℕ} {points w bytes : List ℕ} {p q : ℕ} {s t : List ℕ}
    → PackedWritten edition m r k points w bytes p s → PackedWritten edition m r k points w bytes q t → (p ≡ q) × (s ≡ t)
packed_write_same x y =
    let e = written_same x.call y.call in
    (packs_same x y e.0, e.1)

pub packed_read_same : {bytes points row : List ℕ} {p q : ℕ} {s t u v : List ℕ}
    → PackedRead bytes points row p s t → PackedRead bytes points row q u v → (p ≡ q) × (s ≡ u) × (t ≡ v)
packed_read_same x y =
    let e = read_same x.call y.call in
    (packs_same x y e.0, e.1, e.2)

pub packed_line_same : {bytes buffer : List ℕ} {p q : ℕ} {s t : List ℕ}
    → PackedLined bytes buffer p s → PackedLined bytes buffer q t → (p ≡ q) × (s ≡ t)
packed_line_same {bytes} {buffer} {s = s} {t = t} x y =
    let e = lined_unique bytes buffer x.answer y.answer s t x.call y.call in
    (packs_same x y e.0, e.1)

pub packed_roll_same : (roll : List ℕ) {p q : ℕ} → p ≡ packed_roll roll → q ≡ packed_roll roll → p ≡ q
packed_roll_same roll x y = x ∙ sym y

pub packed_turn_same : {from to : ℕ} {slip bytes : List ℕ} {p q : ℕ} {s t : List ℕ}
    → PackedTurned from to slip bytes p s → PackedTurned from to slip bytes q t → (p ≡ q) × (s ≡ t)
packed_turn_same x y =
    let e = turned_same x.call y.call in
    (packs_same x y e.0, e.1)

pub packed_levels_read_same : {m r : ℕ} {text row : List ℕ} {p q : ℕ} {s t : List ℕ}
    → PackedLevelsRead m r text row p s → PackedLevelsRead m r text row q t → (p ≡ q) × (s ≡ t)
packed_levels_read_same {m} {r} {text} {row} {s = s} {t = t} x y =
    let e = levels_read_same m r text row x.answer y.answer s t x.call y.call in
    (packs_same x y e.0, e.1)

pub packed_levels_write_same : {m r : ℕ} {w text : List ℕ} {p q : ℕ} {s t : List ℕ}
    → PackedLevelsWritten m r w text p s → PackedLevelsWritten m r w text q t → (p ≡ q) × (s ≡ t)
packed_levels_write_same {m} {r} {w} {text} {s = s} {t = t} x y =
    let e = levels_write_same m r w text x.answer y.answer s t x.call y.call in
    (packs_same x y e.0, e.1)
