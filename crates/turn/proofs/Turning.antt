-- The ways out of the call that turns a slip.
use Prim.Native.Nat.{ℕ, ◌+◌, ◌*◌, ◌<◌, ◌≤◌}
use mathlib.Core.Bool.{Bool, true, false, not}
use mathlib.Core.Path.{◌≡◌, refl, sym, ◌∙◌}
use mathlib.Core.List.{List}
use native.Mathlib.Omega.{arith}
use lib.Dec.{eqb, ltb}
use lib.ListN.{length, take}
use borrow.Author.Tests.{lt-ltb, le-ltb, eq-eqb, eqb-true, not-false}
use Rattle.defs.specs.Refusal.{refuse, and_then, answer, kept, Answer, Verdict, fine}
use Rattle.defs.specs.Limits.{longest, Within}
use Rattle.defs.specs.Slip.{is_edition, layout_of, slip_size, longest_slip, slip_of, edition_in, width_in, depth_in, count_in, dimension_in, points_in, row_in}
use Rattle.defs.specs.Write.{write_verdict, Written}
use Rattle.defs.specs.Read.{first_verdict_of, first_verdict, head_verdict, read_verdict, Read}
use Rattle.defs.specs.Turn.{turned, turn_verdict, Turned}
use Rattle.defs.specs.declared.Layout.{Layout}
use Rattle.defs.specs.declared.Refusal.{Refusal}
use Rattle.defs.specs.declared.Refusal.TheVariants.{Length, SlipShort, Edition, RowLong}
use Rattle.defs.specs.declared.SlipRead.{SlipRead}
use Rattle.theory.proofs.Place.{length_tab}
use Rattle.theory.proofs.Limits.{limits_within, count_small}
use Rattle.theory.proofs.Checks.{symbols_fine}
use Rattle.theory.proofs.Verdict.{refuse_fine}
use Rattle.slip.proofs.Layouts.{laid, size_top}
use Rattle.slip.proofs.Reader.{one_edition}
use Rattle.slip.proofs.Taken.{limits, read_sound, length_points, length_row, row_low}
use Rattle.slip.proofs.Answered.{told, read_no, read_fine, read_numbers, points_inside, row_inside, points_fit, row_fits}
use Rattle.turn.specs.Edition.{edition_verdict}
use Rattle.std.proofs.Common.{Result, Err, Ok}

-- ---- the edition

module _ (from : ℕ) (slip : List ℕ) where
  pub too_short : length slip < 3 → Err SlipShort ≡ edition_verdict from slip
  unfolding edition_verdict refuse
  too_short l = rw (lt-ltb (length slip) 3 l)

  pub another : 3 ≤ length slip → (e : ℕ) → e ≡ edition_in slip → eqb from e ≡ false → Err Edition ≡ edition_verdict from slip
  unfolding edition_verdict refuse
  another l e i n = rw (le-ltb (length slip) 3 l, ← i, n)

  pub this_one : 3 ≤ length slip → (e : ℕ) → e ≡ edition_in slip → eqb from e ≡ true → fine ≡ edition_verdict from slip
  unfolding edition_verdict refuse
  this_one l e i n = rw (le-ltb (length slip) 3 l, ← i, n)

  -- the first checks of such a slip are the reader's
  pub own_first : is_edition from ≡ true → edition_verdict from slip ≡ fine → first_verdict_of (eqb from) slip ≡ first_verdict slip
  unfolding edition_verdict
  own_first known f =
      let is = not-false _ (refuse_fine _ _ _ (refuse_fine (ltb (length slip) 3) _ _ f).1).0 in
      one_edition from slip known (sym (eqb-true from (edition_in slip) is))

-- ---- the size

pub length_turned : (to : ℕ) (slip : List ℕ) → length (turned to slip) ≡ slip_size (layout_of to) (width_in slip) (length (points_in slip) + length (row_in slip))
unfolding turned slip_of
length_turned to slip = length_tab _ _

-- a slip that is read becomes one that is no longer than the longest
pub turned_top : (to : ℕ) (slip : List ℕ) → read_verdict slip longest longest ≡ fine → length (turned to slip) ≤ longest_slip
turned_top to slip e =
    let n = (read_sound slip longest longest e).numbers in
    rw (length_turned to slip)
    (size_top (layout_of to) (laid to) (width_in slip) _ n.width (omega (arith, length_points slip, length_row slip, count_small n, n.row_top)))

-- ---- the checks

-- two checks, and what stands behind them
two_checks : (a b : Bool) (x y : Refusal) (v : Verdict) → and_then (refuse a x (refuse b y fine)) v ≡ refuse a x (refuse b y v)
unfolding refuse and_then
two_checks true b x y v = refl
two_checks false true x y v = refl
two_checks false false x y v = refl

module _ (from to : ℕ) (slip : List ℕ) (size : ℕ) where
  -- what stands behind the reader's checks
  abbrev behind : Verdict
  behind = refuse (ltb (layout_of to).top (depth_in slip * count_in slip)) RowLong (refuse (ltb size (length (turned to slip))) Length fine)

  pub refused_edition : (x : Refusal) → edition_verdict from slip ≡ Err x → turn_verdict from to slip size ≡ Err x
  unfolding turn_verdict first_verdict_of edition_verdict and_then
  refused_edition x e = rw (← two_checks (ltb (length slip) 3) (not (eqb from (edition_in slip))) SlipShort Edition _, e)

  module _ (own : first_verdict_of (eqb from) slip ≡ first_verdict slip) where
    -- the reader's checks begin with those
    again : (v w : Verdict) → first_verdict slip ≡ v → and_then v (and_then (read_verdict slip longest longest) w) ≡ and_then (read_verdict slip longest longest) w
    unfolding read_verdict head_verdict and_then
    again (Ok _) w e = refl
    again (Err x) w e = rw e

    by_reader : turn_verdict from to slip size ≡ and_then (read_verdict slip longest longest) behind
    unfolding turn_verdict
    by_reader = rw own (again (first_verdict slip) behind refl)

    pub refused_reader : (x : Refusal) → read_verdict slip longest longest ≡ Err x → turn_verdict from to slip size ≡ Err x
    unfolding and_then
    refused_reader x e = by_reader ∙ rw e

    module _ (e : read_verdict slip longest longest ≡ fine) where
      pub by_room : turn_verdict from to slip size ≡ behind
      unfolding and_then
      by_room = by_reader ∙ rw e

      pub refused_row : (layout_of to).top < depth_in slip * count_in slip → turn_verdict from to slip size ≡ Err RowLong
      unfolding refuse
      refused_row l = by_room ∙ rw (lt-ltb (layout_of to).top (depth_in slip * count_in slip) l)

      -- a row that fits is judged as its writer judges it
      module _ (wanted : is_edition to ≡ true) (l : depth_in slip * count_in slip ≤ (layout_of to).top) where
        abbrev written : Verdict
        written = write_verdict to (width_in slip) (depth_in slip) (dimension_in slip) (points_in slip) (row_in slip) size

        within : Within (layout_of to).top (width_in slip) (depth_in slip) (dimension_in slip) (points_in slip)
        within = limits_within _ _ _ _ (points_in slip) (limits slip longest longest e) (rw (length_points slip) l)

        row_is : length (row_in slip) ≡ depth_in slip * length (points_in slip)
        row_is = length_row slip ∙ rw (length_points slip)

        pub by_writer : turn_verdict from to slip size ≡ written
        unfolding write_verdict and_then refuse
        by_writer =
            by_room
            ∙ rw (
              le-ltb (layout_of to).top (depth_in slip * count_in slip) l,
              length_turned to slip,
              wanted,
              within,
              eq-eqb (length (row_in slip)) (depth_in slip * length (points_in slip)) row_is,
              symbols_fine (width_in slip) (row_in slip) (row_low slip),
            )

-- ---- the ways out of the call

pub turned_refused : (from to : ℕ) (slip bytes : List ℕ) (x : Refusal) → turn_verdict from to slip (length bytes) ≡ Err x → Turned from to slip bytes (Err x) bytes
unfolding answer kept
turned_refused from to slip bytes x e = record { answers = rw e; leaves = rw e }

-- two buffers of the longest row, and what the reader left in them
module _ {slip points row points' row' : List ℕ} {a : Result SlipRead Refusal} (points_room : length points ≡ longest) (row_room : length row ≡ longest)
    (took : Read slip points row a points' row') where
  roomy : read_verdict slip (length points) (length row) ≡ read_verdict slip longest longest
  roomy = rw (points_room, row_room)

  pub turned_no : {from to : ℕ} (bytes : List ℕ) → first_verdict_of (eqb from) slip ≡ first_verdict slip
      → (x : Refusal) → a ≡ Err x → Turned from to slip bytes (Err x) bytes
  turned_no {from} {to} bytes own x e = turned_refused from to slip bytes x (refused_reader from to slip (length bytes) own x (sym roomy ∙ read_no took x e))

  module _ {s : SlipRead} (done : a ≡ Ok s) where
    is_fine : read_verdict slip longest longest ≡ fine
    is_fine = sym roomy ∙ read_fine took s done

    is : s ≡ told slip
    is = read_numbers took s done

    pub row_small : s.r * s.count ≤ longest
    row_small = rw is (read_sound slip longest longest is_fine).numbers.row_top

    pub points_lent : s.count ≤ length points'
    points_lent = rw is (points_fit took s done)

    pub row_lent : s.r * s.count ≤ length row'
    row_lent = rw is (row_fits took s done)

    -- L is the layout of the edition to
    module _ {from to : ℕ} {bytes : List ℕ} (own : first_verdict_of (eqb from) slip ≡ first_verdict slip) (L : Layout) (laid : L ≡ layout_of to) where
      pub turned_long : L.top < s.r * s.count → Turned from to slip bytes (Err RowLong) bytes
      turned_long l =
          let l' : (layout_of to).top < depth_in slip * count_in slip = rw (laid, is) at l in
          turned_refused from to slip bytes RowLong (refused_row from to slip (length bytes) own is_fine l')

      pub turned_written : is_edition to ≡ true → s.r * s.count ≤ L.top → {a : Answer} {bytes' : List ℕ}
          → Written to s.m s.r s.k (take s.count points') (take (s.r * s.count) row') bytes a bytes' → Turned from to slip bytes a bytes'
      unfolding turned
      turned_written wanted l {a} {bytes'} x =
          let l' : depth_in slip * count_in slip ≤ (layout_of to).top = rw (laid, is) at l in
          let x' : Written to (width_in slip) (depth_in slip) (dimension_in slip) (points_in slip) (row_in slip) bytes a bytes' = rw (is, points_inside took s done, row_inside took s done) at x in
          let e = by_writer from to slip (length bytes) own is_fine wanted l' in
          record { answers = x'.answers ∙ rw (e, length_turned to slip); leaves = x'.leaves ∙ rw e }
