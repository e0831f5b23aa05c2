-- The walk over a roll: the slips found and what is left are the roll, up to the first refusal, and what the writer made is found again.
use Prim.Native.Nat.{ℕ, zero, suc, ◌<◌, ◌≤◌}
use mathlib.Core.Path.{◌≡◌, refl, ap, sym, ◌∙◌}
use mathlib.Core.List.{List, [], ◌∷◌, ◌++◌, append_assoc, append-nil}
use native.Mathlib.Decide.{ℕ_discrete}
use native.Mathlib.Omega.{arith}
use lib.ListN.{length, get_or, take, length-append}
use borrow.Author.Tests.{eq-eqb, ne_eqb}
use Rattle.defs.specs.Write.{Written}
use Rattle.defs.specs.Read.{first_verdict, head_verdict}
use Rattle.defs.specs.Roll.{roll_verdict, first_part, rest_part, Walk, walk_end, walk_on, walk_for, walk, joined}
use Rattle.roll.proofs.Parts.{none_found, parts_join, first_within}
use Rattle.promises.proofs.RoundTrip.{written_whole}
use Rattle.promises.proofs.Roll.{first_some, refused_parts, alone, front_first, front_rest, first_whole}
use Rattle.std.proofs.Common.{Err, Ok}
use Rattle.defs.specs.Refusal.{Verdict, fine}

module _ (t : ℕ) (roll : List ℕ) where
  step_end : length (first_part roll) ≡ 0 → walk_for (suc t) roll ≡ walk_end roll
  unfolding walk_for
  step_end e = rw (eq-eqb (length (first_part roll)) 0 e)

  step_on : (length (first_part roll) ≡ 0 → ⊥) → walk_for (suc t) roll ≡ walk_on (first_part roll) (walk_for t (rest_part roll))
  unfolding walk_for
  step_on n = rw (ne_eqb (length (first_part roll)) 0 n)

-- a first part is there only where the roll begins with a slip
some_fine : (roll : List ℕ) (v : Verdict) → first_verdict roll ≡ v → (length (first_part roll) ≡ 0 → ⊥) → first_verdict roll ≡ fine
some_fine roll (Ok _) e n = e
some_fine roll (Err x) e n = absurd (n (ap length (none_found roll x e)))

-- what holds at the end and is kept by a slip found holds of the walk: so many turns as there are bytes are enough
module _ (P : List ℕ → Walk → Type 0) (end : (roll : List ℕ) → length (first_part roll) ≡ 0 → P roll (walk_end roll))
    (on : (roll : List ℕ) (w : Walk) → first_verdict roll ≡ fine → P (rest_part roll) w → P roll (walk_on (first_part roll) w)) where
  one_turn : (t : ℕ) (roll : List ℕ) → length roll ≤ suc t → (length (rest_part roll) ≤ t → P (rest_part roll) (walk_for t (rest_part roll)))
      → Dec (length (first_part roll) ≡ 0) → P roll (walk_for (suc t) roll)
  one_turn t roll l h (yes e) = rw (step_end t roll e) (end roll e)
  one_turn t roll l h (no n) =
      rw (step_on t roll n)
      (on roll (walk_for t (rest_part roll)) (some_fine roll _ refl n) (h (omega (arith, length-append (first_part roll) (rest_part roll), ap length (parts_join roll)))))

  walk_by : (t : ℕ) (roll : List ℕ) → length roll ≤ t → P roll (walk_for t roll)
  unfolding walk_for
  walk_by zero roll l = end roll (omega (arith, first_within roll))
  walk_by (suc t) roll l = one_turn t roll l (λ less. walk_by t (rest_part roll) less) (ℕ_discrete (length (first_part roll)) 0)

-- each is the first slip of the roll from it on, and left stands behind the last one
abbrev pub Firsts : List (List ℕ) → List ℕ → List ℕ → Type 0
Firsts [] roll left = roll ≡ left
Firsts (s ∷ slips) roll left = (first_verdict roll ≡ fine) × (s ≡ first_part roll) × Firsts slips (rest_part roll) left

-- what a walk over a roll is
pub record Walked (roll : List ℕ) (w : Walk) : Type 0 where
  pub joins : joined w.slips ++ w.left ≡ roll
  pub each : Firsts w.slips roll w.left
  pub ends : w.ended ≡ roll_verdict w.left
  pub done : w.ended ≡ fine → w.left ≡ []

all_found : (roll : List ℕ) → length (first_part roll) ≡ 0 → roll_verdict roll ≡ fine → roll ≡ []
unfolding roll_verdict
all_found [] n e = refl
all_found (b ∷ s) n e = absurd (omega (arith, first_some (b ∷ s) e))

-- THE SLIPS FOUND, JOINED, AND WHAT IS LEFT ARE THE ROLL, UP TO THE FIRST REFUSAL
pub walked : (roll : List ℕ) → Walked roll (walk roll)
unfolding walk walk_end walk_on joined
walked roll =
    walk_by Walked
    (λ roll n. record { joins = refl; each = refl; ends = refl; done = all_found roll n })
    (λ roll w e h. record {
      joins = append_assoc (first_part roll) (joined w.slips) w.left ∙ ap (λ (u : List ℕ). first_part roll ++ u) h.joins ∙ parts_join roll;
      each = (e, refl, h.each);
      ends = h.ends;
      done = h.done;
    })
    (length roll) roll (omega arith)

-- ---- slips that were joined

-- in front of something that begins with no slip
pub whole_walk : (slips : List (List ℕ)) → ((i : ℕ) → i < length slips → head_verdict (get_or slips i []) ≡ fine) → (left : List ℕ) → length (first_part left) ≡ 0
    → (t : ℕ) → length (joined slips ++ left) ≤ t → walk_for t (joined slips ++ left) ≡ record { slips = slips; left = left; ended = roll_verdict left }
unfolding joined walk_end walk_on walk_for
whole_walk [] h left none zero l = refl
whole_walk [] h left none (suc t) l = step_end t left none
whole_walk (s ∷ slips) h left none zero l =
    absurd (omega (arith, (alone s [] (h 0 (omega arith))).long, length-append s (joined slips), length-append (s ++ joined slips) left))
whole_walk (s ∷ slips) h left none (suc t) l =
    let e = h 0 (omega arith) in
    let rest : List ℕ = joined slips ++ left in
    let p = front_first s rest e in
    let q = front_rest s rest e in
    let some : 3 ≤ length s = (alone s [] e).long in
    let long : length (s ++ rest) ≤ suc t = rw (← append_assoc s (joined slips) left) l in
    rw (append_assoc s (joined slips) left)
    (step_on t (s ++ rest) (λ z. omega (arith, ap length p))
    ∙ rw (p, q, whole_walk slips (λ i b. h (suc i) (omega arith)) left none t (omega (arith, length-append s rest))))

-- bytes that the writer left, where it was done
pub record Made (s : List ℕ) : Type 0 where
  pub edition : ℕ
  pub m : ℕ
  pub r : ℕ
  pub k : ℕ
  pub d : ℕ
  pub points : List ℕ
  pub w : List ℕ
  pub bytes : List ℕ
  pub bytes' : List ℕ
  pub written : Written edition m r k points w bytes (Ok d) bytes'
  pub is : s ≡ take d bytes'

made_whole : (s : List ℕ) → Made s → head_verdict s ≡ fine
made_whole s x = rw x.is (written_whole x.edition x.m x.r x.k x.d x.points x.w x.bytes x.bytes' x.written)

-- A ROLL THAT THE WRITER MADE, OF SLIPS OF EITHER EDITION, IS TAKEN APART INTO EXACTLY THE SLIPS WRITTEN, AND IS DONE
pub made_walk : (slips : List (List ℕ)) → ((i : ℕ) → i < length slips → Made (get_or slips i [])) → walk (joined slips) ≡ record { slips = slips; left = []; ended = fine }
unfolding walk roll_verdict
made_walk slips h =
    rw (append-nil (joined slips)) at (whole_walk slips (λ i l. made_whole _ (h i l)) [] (omega (arith, first_within [])) (length (joined slips)) (omega (arith, length-append (joined slips) [])))

-- ---- what a walk has found

firsts_whole : (slips : List (List ℕ)) (roll left : List ℕ) → Firsts slips roll left → (i : ℕ) → i < length slips → head_verdict (get_or slips i []) ≡ fine
firsts_whole [] roll left h i l = absurd (omega arith)
firsts_whole (s ∷ slips) roll left h zero l = rw h.1 (first_whole roll h.0)
firsts_whole (s ∷ slips) roll left h (suc i) l = firsts_whole slips (rest_part roll) left h.2 i (omega arith)

-- each is a slip by its header and its size
pub found_whole : (roll : List ℕ) (i : ℕ) → i < length (walk roll).slips → head_verdict (get_or (walk roll).slips i []) ≡ fine
found_whole roll = firsts_whole (walk roll).slips roll (walk roll).left (walked roll).each

-- and what is left begins with none
pub left_none : (roll : List ℕ) → length (first_part (walk roll).left) ≡ 0
left_none roll = go (walk roll).ended refl
  where
    go : (v : Verdict) → (walk roll).ended ≡ v → length (first_part (walk roll).left) ≡ 0
    go (Ok _) e = rw ((walked roll).done e) (omega (arith, first_within []))
    go (Err x) e = rw (refused_parts (walk roll).left x (sym (walked roll).ends ∙ e)).0
