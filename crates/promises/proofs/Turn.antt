-- A slip turned into one of the other edition: one outcome, when it is done, what stays, and over and back.
use Prim.Native.Nat.{ℕ, ◌+◌, ◌*◌, ◌≤◌}
use mathlib.Core.Bool.{true, false, ◌||◌}
use mathlib.Core.Path.{◌≡◌, refl, ap, sym, ◌∙◌}
use mathlib.Core.List.{List}
use native.Mathlib.Omega.{arith}
use lib.Dec.{ltb}
use lib.ListN.{length, take}
use borrow.Author.Tests.{ltb-false, le-ltb, eqb-true, not-false}
use Rattle.defs.specs.Place.{Symbols}
use Rattle.defs.specs.Refusal.{refuse, and_then, answer, kept, Answer, fine}
use Rattle.defs.specs.Limits.{longest, first_twice, Within}
use Rattle.defs.specs.Slip.{is_edition, layout_of, head_bits, head_size, slip_size, slip_of, edition_in, layout_in, width_in, depth_in, count_in, dimension_in, size_in, points_in, row_in}
use Rattle.defs.specs.Write.{front}
use Rattle.defs.specs.Read.{first_verdict_of, head_verdict, read_verdict, Read}
use Rattle.defs.specs.Decode.{Decoded}
use Rattle.defs.specs.Line.{Line, refused, read}
use Rattle.defs.specs.Turn.{turned, turn_verdict, Turned}
use Rattle.defs.specs.declared.Refusal.{Refusal}
use Rattle.defs.specs.declared.Refusal.TheVariants.{Length}
use Rattle.defs.specs.declared.SlipRead.{SlipRead}
use Rattle.theory.proofs.Limits.{numbers_top, count_small, limits_within}
use Rattle.theory.proofs.Verdict.{apart, refuse_fine, then_fine, answer_done, kept_refused}
use Rattle.slip.proofs.Front.{take_front}
use Rattle.slip.proofs.Reader.{laid_in, one_edition, sound, read_checked, read_clean, read_once}
use Rattle.slip.proofs.Answered.{read_fine}
use Rattle.slip.proofs.Canonical.{slip_read_whole}
use Rattle.slip.proofs.Taken.{limits, read_sound, length_points, length_row, row_low}
use Rattle.turn.proofs.Turning.{length_turned, by_room}
use Rattle.promises.proofs.RoundTrip.{edition_back, width_back, depth_back, count_back, dimension_back, points_back, row_back, verdict_back}
use Rattle.std.proofs.Common.{Err, Ok, Result}

pub turned_same : {from to : ℕ} {slip bytes : List ℕ} {a b : Answer} {s t : List ℕ} → Turned from to slip bytes a s → Turned from to slip bytes b t → (a ≡ b) × (s ≡ t)
turned_same x y = (cc (x.answers, y.answers), cc (x.leaves, y.leaves))

pub turn_refused : {from to : ℕ} {slip bytes : List ℕ} {x : Refusal} {bytes' : List ℕ} → Turned from to slip bytes (Err x) bytes' → bytes' ≡ bytes
turn_refused t = t.leaves ∙ kept_refused _ _ _ _ _ (sym t.answers)

-- a slip of the edition from, whose row is not too long for the edition to
pub record Turnable (from to : ℕ) (slip : List ℕ) : Type 0 where
  pub edition : edition_in slip ≡ from
  pub readable : read_verdict slip longest longest ≡ fine
  pub short : depth_in slip * count_in slip ≤ (layout_of to).top

-- in whose points and row there is room for the longest
pub room_fine : (slip : List ℕ) → head_verdict slip ≡ fine → ltb longest (count_in slip) || ltb longest (depth_in slip * count_in slip) ≡ false
room_fine slip f =
    let n = (sound slip f).numbers in
    rw (le-ltb longest (count_in slip) (count_small n), le-ltb longest (depth_in slip * count_in slip) n.row_top)

-- READABLE IS WHAT THE READER TAKES, into whatever buffers
pub read_readable : {slip points row : List ℕ} {a : Result SlipRead Refusal} {points' row' : List ℕ} → Read slip points row a points' row' → (s : SlipRead) → a ≡ Ok s
    → read_verdict slip longest longest ≡ fine
unfolding read_verdict refuse and_then
read_readable {slip} {points} {row} x s done =
    let e = read_fine x s done in
    let f = read_checked slip (length points) (length row) e in
    rw (
      f,
      read_clean slip (length points) (length row) e,
      le-ltb (first_twice (points_in slip)) (count_in slip) (read_once slip (length points) (length row) e),
      room_fine slip f,
    )

module _ (from to : ℕ) (slip : List ℕ) (size : ℕ) where
  turn_known : turn_verdict from to slip size ≡ fine → Turnable from to slip × (length (turned to slip) ≤ size)
  unfolding turn_verdict first_verdict_of
  turn_known e =
      let e1 = then_fine _ _ e in
      let e2 = refuse_fine _ _ _ (refuse_fine (ltb (length slip) 3) _ _ e1.0).1 in
      let e3 = then_fine (read_verdict slip longest longest) _ e1.1 in
      let e4 = refuse_fine _ _ _ e3.1 in
      let e5 = refuse_fine _ _ _ e4.1 in (
        record {
          edition = sym (eqb-true from (edition_in slip) (not-false _ e2.0));
          readable = e3.0;
          short = ltb-false (layout_of to).top _ e4.0;
        },
        ltb-false size _ e5.0,
      )

  -- only the room is left to look at
  pub by_size : is_edition from ≡ true → Turnable from to slip → turn_verdict from to slip size ≡ refuse (ltb size (length (turned to slip))) Length fine
  unfolding refuse
  by_size known t =
      by_room from to slip size (one_edition from slip known t.edition) t.readable
      ∙ rw (le-ltb (layout_of to).top (depth_in slip * count_in slip) t.short)

  turn_fine : is_edition from ≡ true → Turnable from to slip → length (turned to slip) ≤ size → turn_verdict from to slip size ≡ fine
  unfolding refuse
  turn_fine known t room = by_size known t ∙ rw (le-ltb size (length (turned to slip)) room)

-- ---- what stands in the slip that it was turned into

module _ (from to : ℕ) (wanted : is_edition to ≡ true) (slip : List ℕ) (t : Turnable from to slip) where
  abbrev m : ℕ
  m = width_in slip

  abbrev r : ℕ
  r = depth_in slip

  abbrev k : ℕ
  k = dimension_in slip

  pub within : Within (layout_of to).top m r k (points_in slip)
  within = limits_within _ _ _ _ (points_in slip) (limits slip longest longest t.readable) (rw (length_points slip) t.short)

  pub row_is : length (row_in slip) ≡ r * length (points_in slip)
  row_is = length_row slip ∙ rw (length_points slip)

  pub edition_new : edition_in (turned to slip) ≡ to
  unfolding turned
  edition_new = edition_back to wanted m r k (points_in slip) (row_in slip) within (row_low slip)

  -- THE SAME NUMBERS, POINTS AND SYMBOLS
  pub numbers_kept : (width_in (turned to slip) ≡ m) × (depth_in (turned to slip) ≡ r) × (count_in (turned to slip) ≡ count_in slip) × (dimension_in (turned to slip) ≡ k)
  unfolding turned
  numbers_kept = (
    width_back to wanted m r k (points_in slip) (row_in slip) within (row_low slip),
    depth_back to wanted m r k (points_in slip) (row_in slip) within (row_low slip),
    count_back to wanted m r k (points_in slip) (row_in slip) within (row_low slip) ∙ length_points slip,
    dimension_back to wanted m r k (points_in slip) (row_in slip) within (row_low slip),
  )

  pub points_kept : points_in (turned to slip) ≡ points_in slip
  unfolding turned
  points_kept = points_back to wanted m r k (points_in slip) (row_in slip) within (row_low slip)

  pub row_kept : row_in (turned to slip) ≡ row_in slip
  unfolding turned
  row_kept = row_back to wanted m r k (points_in slip) (row_in slip) within (row_low slip) row_is

  -- THE READER TAKES IT
  pub turned_read : read_verdict (turned to slip) longest longest ≡ fine
  unfolding turned
  turned_read =
      let n = (read_sound slip longest longest t.readable).numbers in
      verdict_back to wanted m r k (points_in slip) (row_in slip) within (row_low slip) row_is longest longest
      (omega (arith, length_points slip, count_small n)) (omega (arith, length_row slip, n.row_top))

  -- THE HEADER ALONE has another size
  pub size_kept : length (turned to slip) + head_size (layout_of from) ≡ length slip + head_size (layout_of to)
  unfolding slip_size size_in layout_in
  size_kept =
      let new : length (turned to slip) ≡ slip_size (layout_of to) m (count_in slip + r * count_in slip) = length_turned to slip ∙ rw (length_points slip, length_row slip) in
      let old : length slip ≡ slip_size (layout_of from) m (count_in slip + r * count_in slip) = (read_sound slip longest longest t.readable).size ∙ rw t.edition in
      omega (arith, new, old)

  -- DECODE ANSWERS THE SAME
  pub decode_kept : {message depth message' depth' : List ℕ} {a : Answer} → Decoded m r k (points_in slip) (row_in slip) message depth a message' depth'
      → Decoded (width_in (turned to slip)) (depth_in (turned to slip)) (dimension_in (turned to slip)) (points_in (turned to slip)) (row_in (turned to slip)) message depth a message' depth'
  decode_kept d = rw (numbers_kept.0, numbers_kept.1, numbers_kept.3, points_kept, row_kept) d

  -- THE LINE IS THE SAME
  pub line_kept : (text : List ℕ) → Line slip text → Line (turned to slip) text
  line_kept text (refused x e q) = absurd (apart (let f = t.readable in cc))
  line_kept text (read e row) = read turned_read (rw (numbers_kept.0, numbers_kept.1, numbers_kept.3, points_kept, row_kept) row)

  again : (edition : ℕ) (T : List ℕ) → (width_in T ≡ m) × (depth_in T ≡ r) × (count_in T ≡ count_in slip) × (dimension_in T ≡ k) → points_in T ≡ points_in slip → row_in T ≡ row_in slip
      → turned edition T ≡ slip_of (layout_of edition) m r k (points_in slip) (row_in slip)
  unfolding turned
  again edition T n p w = rw (n.0, n.1, n.3, p, w)

  -- AND BACK: what it is turned into is turned into the slip again
  pub turnable_back : Turnable to from (turned to slip)
  unfolding layout_in
  turnable_back = record {
    edition = edition_new;
    readable = turned_read;
    short =
        let s = read_sound slip longest longest t.readable in
        rw (numbers_kept.1, numbers_kept.2, ← t.edition) (numbers_top (layout_in slip).top _ _ _ _ (laid_in slip).top_low s.is_fine);
  }

  pub turned_back : Symbols 8 slip → turned from (turned to slip) ≡ slip
  unfolding layout_in
  turned_back are =
      let T = turned to slip in
      let same : turned from T ≡ slip_of (layout_of from) m r k (points_in slip) (row_in slip) = again from T numbers_kept points_kept row_kept in
      same ∙ rw (← t.edition) (slip_read_whole slip are longest longest t.readable)

-- ---- the calls

-- DONE EXACTLY THERE, with room for the result
module _ (from to : ℕ) (known : is_edition from ≡ true) (slip bytes : List ℕ) where
  pub turn_done : Turnable from to slip → length (turned to slip) ≤ length bytes → {a : Answer} {bytes' : List ℕ} → Turned from to slip bytes a bytes'
      → (a ≡ Ok (length (turned to slip))) × (take (length (turned to slip)) bytes' ≡ turned to slip)
  unfolding answer kept
  turn_done t room {a} {bytes'} x =
      let v = turn_fine from to slip (length bytes) known t room in
      let b : bytes' ≡ front (turned to slip) bytes = x.leaves ∙ rw v in
      (x.answers ∙ rw v, ap (take (length (turned to slip))) b ∙ take_front (turned to slip) bytes _ refl)

  pub done_turn : (d : ℕ) {bytes' : List ℕ} → Turned from to slip bytes (Ok d) bytes' → Turnable from to slip × (length (turned to slip) ≤ length bytes)
  done_turn d x = turn_known from to slip (length bytes) (answer_done _ _ d (sym x.answers))

-- OLD TO NEW on every readable slip of edition 1
pub old_new : (slip : List ℕ) → edition_in slip ≡ 1 → read_verdict slip longest longest ≡ fine → Turnable 1 2 slip
unfolding layout_of
old_new slip e f = record { edition = e; readable = f; short = (read_sound slip longest longest f).numbers.row_top }

-- NEW TO OLD exactly where n is at most 128
pub new_old : (slip : List ℕ) → edition_in slip ≡ 2 → read_verdict slip longest longest ≡ fine → depth_in slip * count_in slip ≤ 128 → Turnable 2 1 slip
unfolding layout_of
new_old slip e f l = record { edition = e; readable = f; short = l }

pub new_old_only : (slip : List ℕ) → Turnable 2 1 slip → depth_in slip * count_in slip ≤ 128
unfolding layout_of
new_old_only slip t = t.short

-- A BYTE MORE in edition 2
pub new_longer : (slip : List ℕ) → Turnable 1 2 slip → length (turned 2 slip) ≡ length slip + 1
unfolding layout_of head_bits
new_longer slip t = omega (arith, size_kept 1 2 refl slip t)

-- AND A BYTE LESS in edition 1
pub old_shorter : (slip : List ℕ) → Turnable 2 1 slip → length (turned 1 slip) + 1 ≡ length slip
unfolding layout_of head_bits
old_shorter slip t = omega (arith, size_kept 2 1 refl slip t)

-- OVER AND BACK, from either edition
pub over_back : (from to : ℕ) → is_edition from ≡ true → is_edition to ≡ true → (slip : List ℕ) → Symbols 8 slip
    → (bytes bytes' : List ℕ) (d : ℕ) → Turned from to slip bytes (Ok d) bytes'
    → (back back' : List ℕ) (b : Answer) → length slip ≤ length back → Turned to from (take d bytes') back b back'
    → (b ≡ Ok (length slip)) × (take (length slip) back' ≡ slip)
over_back from to known wanted slip are bytes bytes' d x back back' b room y =
    let q = done_turn from to known slip bytes d x in
    let t = q.0 in
    let o = turn_done from to known slip bytes t q.1 x in
    let e : d ≡ length (turned to slip) = cc (o.0) in
    let T : take d bytes' ≡ turned to slip = rw e o.1 in
    let same = turned_back from to wanted slip t are in
    rw same at (turn_done to from wanted (turned to slip) back (turnable_back from to wanted slip t) (rw same room) (rw T at y))
