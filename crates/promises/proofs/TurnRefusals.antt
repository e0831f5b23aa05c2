-- What a slip that is to be turned is refused by, in the order of the checks: there is no other way out than these and done.
use Prim.Native.Nat.{ℕ, ◌*◌, ◌<◌, ◌≤◌}
use mathlib.Core.Bool.{true, false}
use mathlib.Core.Path.{◌≡◌, refl, sym, ◌∙◌}
use mathlib.Core.List.{List}
use lib.Dec.{eqb}
use lib.ListN.{length}
use borrow.Author.Tests.{lt-ltb, ne_eqb, eqb-false}
use Rattle.defs.specs.Refusal.{number_of, refuse, answer, Answer, fine}
use Rattle.defs.specs.Limits.{longest}
use Rattle.defs.specs.Slip.{is_edition, layout_of, edition_in, depth_in, count_in}
use Rattle.defs.specs.Read.{first_verdict, head_verdict, read_verdict}
use Rattle.defs.specs.Turn.{turned, turn_verdict, Turned}
use Rattle.defs.specs.declared.Refusal.{Refusal}
use Rattle.defs.specs.declared.Refusal.TheVariants.{Length, SlipShort, Edition, RowLong}
use Rattle.theory.proofs.Verdict.{apart, Every, every_fine, every_refuse, every_plain, every_then}
use Rattle.slip.proofs.Reader.{one_edition}
use Rattle.slip.proofs.Refusals.{first_every}
use Rattle.turn.proofs.Turning.{too_short, another, refused_edition, refused_reader, refused_row}
use Rattle.promises.proofs.Turn.{Turnable, room_fine, by_size}
use Rattle.std.proofs.Common.{Err}

module _ (from to : ℕ) (known : is_edition from ≡ true) (slip bytes : List ℕ) {a : Answer} {bytes' : List ℕ} (x : Turned from to slip bytes a bytes') where
  as_judged : (y : Refusal) → turn_verdict from to slip (length bytes) ≡ Err y → a ≡ Err y
  unfolding answer
  as_judged y e = x.answers ∙ rw e

  -- 10 FOR FEWER THAN 3 BYTES
  pub turn_cut : length slip < 3 → a ≡ Err SlipShort
  turn_cut l = as_judged _ (refused_edition from to slip (length bytes) _ (sym (too_short from slip l)))

  -- 11 FOR EVERY OTHER EDITION, whatever else stands in the slip
  pub turn_other : 3 ≤ length slip → (from ≡ edition_in slip → ⊥) → a ≡ Err Edition
  turn_other l n = as_judged _ (refused_edition from to slip (length bytes) _ (sym (another from slip l _ refl (ne_eqb from (edition_in slip) n))))

  module _ (own : edition_in slip ≡ from) where
    -- THE READER'S
    pub turn_reader : (y : Refusal) → read_verdict slip longest longest ≡ Err y → a ≡ Err y
    turn_reader y e = as_judged y (refused_reader from to slip (length bytes) (one_edition from slip known own) y e)

    -- THEN 15, whatever room there is
    pub turn_long : read_verdict slip longest longest ≡ fine → (layout_of to).top < depth_in slip * count_in slip → a ≡ Err RowLong
    turn_long e l = as_judged _ (refused_row from to slip (length bytes) (one_edition from slip known own) e l)

  -- THEN 7
  pub turn_short : Turnable from to slip → length bytes < length (turned to slip) → a ≡ Err Length
  unfolding refuse
  turn_short t l = as_judged _ (by_size from to slip (length bytes) known t ∙ rw (lt-ltb (length bytes) (length (turned to slip)) l))

roomy_every : (slip : List ℕ) → Every (λ y. eqb (number_of y) 7 ≡ false) (read_verdict slip longest longest)
unfolding read_verdict head_verdict
roomy_every slip =
    every_then (head_verdict slip) _
    (every_then (first_verdict slip) _ (first_every is_edition slip refl refl refl refl refl) (λ f. every_plain _ _ _ refl every_fine))
    (λ f. every_plain _ _ _ refl
    (every_plain _ _ _ refl
    (every_refuse _ _ _ (λ t. absurd (apart (let q = room_fine slip f in cc))) (λ t. every_fine))))

-- THE READER BUT 7: with room for the longest row it never answers that
pub roomy : (slip : List ℕ) (y : Refusal) → read_verdict slip longest longest ≡ Err y → number_of y ≡ 7 → ⊥
roomy slip y e q = eqb-false (number_of y) 7 ((roomy_every slip).of y e) q
