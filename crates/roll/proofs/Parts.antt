-- The two parts of a roll: what they are where a slip was found and where none was, and that they are the roll cut in two.
use Prim.Native.Nat.{ℕ, ◌≤◌}
use mathlib.Core.Path.{◌≡◌, refl, ap, sym, ◌∙◌}
use mathlib.Core.List.{List, [], ◌∷◌, ◌++◌}
use native.Mathlib.Omega.{arith}
use lib.ListN.{length, take, drop, length-append, take-append-drop}
use lib.Seq.{length-take-le, take-nil, take-append_seam, drop-append_seam}
use Rattle.std.specs.Result.{result_unwrap_or}
use Rattle.defs.specs.Refusal.{answer, kept, Verdict, fine}
use Rattle.defs.specs.Slip.{longest_slip, size_in}
use Rattle.defs.specs.Read.{first_verdict}
use Rattle.defs.specs.Roll.{roll_verdict, first_part, rest_part}
use Rattle.defs.specs.declared.Refusal.{Refusal}
use Rattle.slip.proofs.Reader.{header_top, begins}
use Rattle.std.proofs.Common.{Err, Ok}

-- ---- the verdict

pub others_first : (roll : List ℕ) → (length roll ≡ 0 → ⊥) → first_verdict roll ≡ roll_verdict roll
unfolding roll_verdict
others_first [] n = absurd (n refl)
others_first (b ∷ s) n = refl

-- ---- the parts

-- they are the roll cut in two
cut : (v : Verdict) (n : ℕ) (s : List ℕ) → kept v (take n s) [] ++ kept v (drop n s) s ≡ s
unfolding kept
cut (Ok _) n s = take-append-drop n s
cut (Err x) n s = refl

pub none_found : (roll : List ℕ) (x : Refusal) → first_verdict roll ≡ Err x → first_part roll ≡ []
unfolding first_part kept roll_verdict
none_found [] x e = take-nil (size_in [])
none_found (b ∷ s) x e = rw e

module _ (roll : List ℕ) where
  pub parts_join : first_part roll ++ rest_part roll ≡ roll
  unfolding first_part rest_part
  parts_join = cut (roll_verdict roll) (size_in roll) roll

  pub first_within : length (first_part roll) ≤ length roll
  first_within = omega (arith, length-append (first_part roll) (rest_part roll), ap length parts_join)

  pub first_taken : take (length (first_part roll)) roll ≡ first_part roll
  first_taken = ap (take (length (first_part roll))) (sym parts_join) ∙ take-append_seam (first_part roll) (rest_part roll)

  pub rest_left : drop (length (first_part roll)) roll ≡ rest_part roll
  rest_left = ap (drop (length (first_part roll))) (sym parts_join) ∙ drop-append_seam (first_part roll) (rest_part roll)

  -- where the roll begins with a slip
  module _ (e : first_verdict roll ≡ fine) where
    pub roll_fine : roll_verdict roll ≡ fine
    roll_fine = sym (others_first roll (λ z. omega (arith, (begins roll e).long))) ∙ e

    pub first_found : first_part roll ≡ take (size_in roll) roll
    unfolding first_part kept
    first_found = rw roll_fine

    pub first_long : length (first_part roll) ≡ size_in roll
    first_long = rw first_found (length-take-le (size_in roll) roll (begins roll e).size)

-- where the first part ends: at 0 in an empty roll, and in another behind its slip
pub empty_end : (roll : List ℕ) → length roll ≡ 0 → Ok 0 ≡ answer (roll_verdict roll) (length (first_part roll))
unfolding answer roll_verdict first_part kept
empty_end [] e = rw (take-nil (size_in []))
empty_end (b ∷ s) e = absurd (omega arith)

pub other_end : (roll : List ℕ) → (length roll ≡ 0 → ⊥) → answer (first_verdict roll) (size_in roll) ≡ answer (roll_verdict roll) (length (first_part roll))
unfolding answer
other_end roll n = rw (← others_first roll n) (go (first_verdict roll) refl)
  where
    go : (v : Verdict) → first_verdict roll ≡ v → answer v (size_in roll) ≡ answer v (length (first_part roll))
    go (Ok _) e = rw (first_long roll e)
    go (Err x) e = refl

-- on a refusal there is no first part
pub end_or_none : (roll : List ℕ) → result_unwrap_or (answer (roll_verdict roll) (length (first_part roll))) 0 ≡ length (first_part roll)
unfolding answer first_part kept
end_or_none roll = go (roll_verdict roll)
  where
    go : (v : Verdict) → result_unwrap_or (answer v (length (kept v (take (size_in roll) roll) []))) 0 ≡ length (kept v (take (size_in roll) roll) [])
    go (Ok _) = refl
    go (Err x) = refl

-- a first part is no longer than the longest slip
pub first_top : (roll : List ℕ) → length (first_part roll) ≤ longest_slip
first_top roll = go (first_verdict roll) refl
  where
    go : (v : Verdict) → first_verdict roll ≡ v → length (first_part roll) ≤ longest_slip
    go (Ok _) e = omega (arith, first_long roll e, header_top roll (begins roll e).is_fine)
    go (Err x) e = omega (arith, ap length (none_found roll x e))
