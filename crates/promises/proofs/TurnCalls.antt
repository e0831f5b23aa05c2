-- The two calls that turn a slip: where each is done, and what stands in the bytes that it leaves.
use Prim.Native.Nat.{ℕ, ◌*◌, ◌≤◌}
use mathlib.Core.Bool.{true, false}
use mathlib.Core.Path.{◌≡◌, refl, sym, ◌∙◌}
use mathlib.Core.List.{List}
use native.Mathlib.Omega.{arith}
use lib.Dec.{eqb}
use lib.ListN.{length, take}
use borrow.Author.Tests.{ltb-true, eqb-false}
use Rattle.defs.specs.Refusal.{number_of, kept, Answer, fine}
use Rattle.defs.specs.Limits.{longest}
use Rattle.defs.specs.Slip.{is_edition, layout_of, edition_in, depth_in, count_in, points_in, row_in}
use Rattle.defs.specs.Write.{front}
use Rattle.defs.specs.Read.{first_verdict_of, first_verdict, head_verdict, read_verdict, reading, Read}
use Rattle.defs.specs.Line.{Line}
use Rattle.defs.specs.Turn.{turned, turn_verdict, Turned}
use Rattle.defs.specs.declared.Refusal.TheVariants.{RowLong}
use Rattle.defs.specs.declared.Refusal.{Refusal}
use Rattle.defs.specs.declared.SlipRead.{SlipRead}
use Rattle.theory.proofs.Verdict.{answer_refused, Every, every_fine, every_refuse, every_plain, every_then}
use Rattle.slip.proofs.Answered.{read_fine, read_numbers}
use Rattle.slip.proofs.Reader.{read_room}
use Rattle.slip.proofs.Refusals.{first_every}
use Rattle.slip.proofs.Taken.{length_points, length_row, row_low, read_sound}
use Rattle.promises.proofs.RoundTrip.{slip_read_back}
use Rattle.promises.proofs.Turn.{Turnable, turn_done, done_turn, old_new, new_old, new_old_only, within, row_is, line_kept}
use Rattle.std.proofs.Common.{Err, Ok, Result}

-- OLD TO NEW, with room, is done on every readable slip of edition 1
pub to_new_done : (slip bytes : List ℕ) {a : Answer} {bytes' : List ℕ} → Turned 1 2 slip bytes a bytes'
    → edition_in slip ≡ 1 → read_verdict slip longest longest ≡ fine → length (turned 2 slip) ≤ length bytes → a ≡ Ok (length (turned 2 slip))
to_new_done slip bytes x e f room = (turn_done 1 2 refl slip bytes (old_new slip e f) room x).0

-- and never answers 15
never_every : (slip : List ℕ) (size : ℕ) → Every (λ y. eqb (number_of y) 15 ≡ false) (turn_verdict 1 2 slip size)
unfolding turn_verdict read_verdict head_verdict layout_of
never_every slip size =
    every_then (first_verdict_of (eqb 1) slip) _ (first_every (eqb 1) slip refl refl refl refl refl)
    (λ own. every_then (read_verdict slip longest longest) _
    (every_then (head_verdict slip) _
    (every_then (first_verdict slip) _ (first_every is_edition slip refl refl refl refl refl) (λ f. every_plain _ _ _ refl every_fine))
    (λ f. every_plain _ _ _ refl (every_plain _ _ _ refl (every_plain _ _ _ refl every_fine))))
    (λ is_fine. every_refuse _ _ _ (λ t. absurd (omega (arith, ltb-true longest (depth_in slip * count_in slip) t, (read_sound slip longest longest is_fine).numbers.row_top)))
    (λ t. every_plain _ _ _ refl every_fine)))

pub to_new_never : (slip bytes : List ℕ) {a : Answer} {bytes' : List ℕ} → Turned 1 2 slip bytes a bytes' → a ≡ Err RowLong → ⊥
to_new_never slip bytes x e = eqb-false 15 15 ((never_every slip (length bytes)).of RowLong (answer_refused _ _ RowLong (sym x.answers ∙ e))) refl

-- NEW TO OLD, with room, is done on a readable slip of edition 2 exactly where n is at most 128
pub to_old_done : (slip bytes : List ℕ) {a : Answer} {bytes' : List ℕ} → Turned 2 1 slip bytes a bytes'
    → edition_in slip ≡ 2 → read_verdict slip longest longest ≡ fine → length (turned 1 slip) ≤ length bytes
    → (depth_in slip * count_in slip ≤ 128 → a ≡ Ok (length (turned 1 slip))) × ((d : ℕ) → a ≡ Ok d → depth_in slip * count_in slip ≤ 128)
to_old_done slip bytes x e f room = (
  λ l. (turn_done 2 1 refl slip bytes (new_old slip e f l) room x).0,
  λ d q. new_old_only slip (done_turn 2 1 refl slip bytes d (rw q at x)).0,
)

-- ---- what a call that was done left

module _ (from to : ℕ) (known : is_edition from ≡ true) (wanted : is_edition to ≡ true) (slip bytes bytes' : List ℕ) (d : ℕ) (x : Turned from to slip bytes (Ok d) bytes') where
  turnable : Turnable from to slip
  turnable = (done_turn from to known slip bytes d x).0

  pub left_is : take d bytes' ≡ turned to slip
  left_is =
      let q = done_turn from to known slip bytes d x in
      let o = turn_done from to known slip bytes q.0 q.1 x in
      let e : d ≡ length (turned to slip) = cc (o.0) in
      rw e o.1

  -- IT IS READ AS THE SLIP WAS, into the same buffers, with the other edition: numbers, points and row
  pub left_read : (points row : List ℕ) {a a' : Result SlipRead Refusal} {p w p' w' : List ℕ} → Read slip points row a p w → (s : SlipRead) → a ≡ Ok s
      → Read (take d bytes') points row a' p' w'
      → (a' ≡ Ok (record { edition = to; m = s.m; r = s.r; count = s.count; k = s.k })) × (p' ≡ p) × (w' ≡ w)
  unfolding turned reading kept
  left_read points row {a} {a'} {p} {w} {p'} {w'} y s done z =
      let f = read_fine y s done in
      let room = read_room slip (length points) (length row) f in
      let T : Read (turned to slip) points row a' p' w' = rw left_is at z in
      let b = slip_read_back to wanted _ _ _ (points_in slip) (row_in slip) (within from to wanted slip turnable) (row_low slip) (row_is from to wanted slip turnable)
      points row (rw (length_points slip) room.0) (rw (length_row slip) room.1) a' p' w' T in
      let pp : p ≡ front (points_in slip) points = y.leaves_points ∙ rw f in
      let ww : w ≡ front (row_in slip) row = y.leaves_row ∙ rw f in
      (rw (read_numbers y s done) (b.0 ∙ rw (length_points slip)), b.1 ∙ sym pp, b.2 ∙ sym ww)

  -- and so decode, which gets them, answers the same; THE LINE IS THE SAME
  pub left_line : (text : List ℕ) → Line slip text → Line (take d bytes') text
  left_line text l = rw left_is (line_kept from to wanted slip turnable text l)
