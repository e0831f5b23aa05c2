-- One law for every loop that fills a buffer.
use Prim.Native.Nat.{ℕ, suc, ◌+◌, ◌-◌, ◌<◌, ◌≤◌}
use mathlib.Core.Path.{◌≡◌, ap, sym, subst, ◌∙◌}
use mathlib.Core.List.{List, [], ◌∷◌, ◌++◌, append_assoc, append-nil}
use native.Mathlib.Nat.{add-suc, add-zero, zero-add}
use native.Mathlib.Numerals.{add-one}
use native.Mathlib.Omega.{arith}
use lib.ListN.{length, get_or, take, drop, set, length-append, take-append-drop, drop_of_length-le}
use lib.Seq.{length-take-le, drop-cons, set_at, append_snoc, get_or-append-add, get_or-drop}
use Rattle.defs.specs.Place.{tab}
use Rattle.theory.specs.Fill.{filled}
use Rattle.theory.proofs.Place.{length_tab, tab_snoc}

head_length : (d : List ℕ) (at : ℕ) (F : ℕ → ℕ) (n : ℕ) → at ≤ length d → length (take at d ++ tab F n) ≡ at + n
head_length d at F n h = length-append (take at d) (tab F n) ∙ cc (length-take-le at d h, length_tab F n)

pub filled_none : (d : List ℕ) (at : ℕ) (F : ℕ → ℕ) → d ≡ filled d at F 0
unfolding filled tab
filled_none d at F =
    sym (ap (λ (k : ℕ). take at d ++ [] ++ drop k d) (add-zero at) ∙ ap (λ (r : List ℕ). r ++ drop at d) (append-nil (take at d)) ∙ take-append-drop at d)

-- a turn of the loop: a store of F j at at + j
pub filled_more : (d : List ℕ) (at : ℕ) (F : ℕ → ℕ) (j : ℕ) → at + j < length d → set (filled d at F j) (at + j) (F j) ≡ filled d at F (j + 1)
unfolding filled
filled_more d at F j hd =
    let p : List ℕ = take at d ++ tab F j in
    let rest : List ℕ = drop (suc (at + j)) d in
    ap (λ (r : List ℕ). set (p ++ r) (at + j) (F j)) (drop-cons d (at + j) 0 hd)
    ∙ set_at p (get_or d (at + j) 0) rest (F j) (at + j) (head_length d at F j (omega arith))
    ∙ sym (append_snoc p (F j) rest)
    ∙ ap (λ (r : List ℕ). r ++ rest)
    (append_assoc (take at d) (tab F j) (F j ∷ []) ∙ ap (λ (r : List ℕ). take at d ++ r) (sym (tab_snoc F j)))
    ∙ ap (λ (k : ℕ). take at d ++ tab F (suc j) ++ drop k d) (sym (add-suc at j))
    ∙ ap (λ (k : ℕ). take at d ++ tab F k ++ drop (at + k) d) (sym (add-one j))

-- the same from the front on
pub filled_next : (d : List ℕ) (F : ℕ → ℕ) (i : ℕ) → i < length d → set (filled d 0 F i) i (F i) ≡ filled d 0 F (i + 1)
filled_next d F i h = subst (λ (k : ℕ). set (filled d 0 F i) k (F i) ≡ filled d 0 F (i + 1)) (zero-add i) (filled_more d 0 F i (omega arith))

-- what the loop leaves: new values in front
pub filled_front : (d : List ℕ) (F : ℕ → ℕ) (n : ℕ) → filled d 0 F n ≡ tab F n ++ drop n d
unfolding filled
filled_front d F n = ap (λ (k : ℕ). tab F n ++ drop k d) (zero-add n)

-- a whole list is filled
pub filled_all : (d : List ℕ) (F : ℕ → ℕ) (n : ℕ) → n ≡ length d → filled d 0 F n ≡ tab F (length d)
filled_all d F n e =
    filled_front d F n ∙ ap (λ (s : List ℕ). tab F n ++ s) (drop_of_length-le d (omega arith)) ∙ append-nil (tab F n) ∙ ap (tab F) e

-- what is still to be filled
pub filled_rest : (d : List ℕ) (F : ℕ → ℕ) (n i : ℕ) → n ≤ i → get_or (filled d 0 F n) i 0 ≡ get_or d i 0
filled_rest d F n i h =
    let e : i ≡ length (tab F n) + (i - n) = omega (arith, length_tab F n) in
    let g : n + (i - n) ≡ i = omega arith in
    ap (λ (s : List ℕ). get_or s i 0) (filled_front d F n) ∙ ap (λ (k : ℕ). get_or (tab F n ++ drop n d) k 0) e
    ∙ get_or-append-add (tab F n) (drop n d) (i - n) 0 ∙ get_or-drop n d (i - n) 0 ∙ ap (λ (k : ℕ). get_or d k 0) g
