-- What stands in a chunk, and how one is filled symbol by symbol.
use Prim.Native.Nat.{ℕ, ◌+◌, ◌-◌, ◌<◌, ◌≤◌}
use mathlib.Core.Path.{◌≡◌, refl, ap, sym, ◌∙◌}
use mathlib.Core.List.{List, ◌++◌}
use native.Mathlib.Decide.{dec_lt}
use native.Mathlib.Nat.{zero-add, add-sub_of_le}
use native.Mathlib.Omega.{arith}
use lib.ListN.{length, get_or, take, drop, replicate, length-append, length-drop, get_or-append, get_or-eq_default}
use lib.Seq.{ext_get_or, get_or-append-add, get_or-drop}
use Rattle.defs.specs.Place.{tab}
use Rattle.defs.specs.Limits.{deepest}
use Rattle.theory.proofs.Place.{length_tab, get_d_tab, tab_same, tab_take, zeros_zero}
use Rattle.code.specs.Chunk.{blank, chunk_of}

pub length_blank : length blank ≡ deepest
unfolding blank
length_blank = refl

-- what stands in a list whose first n values are new
module _ (d : List ℕ) (F : ℕ → ℕ) (n i : ℕ) where
  pub new_front : i < n → get_or (tab F n ++ drop n d) i 0 ≡ F i
  new_front l = get_or-append (tab F n) (drop n d) 0 i (omega (arith, length_tab F n)) ∙ get_d_tab F n i l

  pub old_behind : n ≤ i → get_or (tab F n ++ drop n d) i 0 ≡ get_or d i 0
  old_behind l =
      let e : i ≡ length (tab F n) + (i - n) = omega (arith, length_tab F n) in
      ap (λ (x : ℕ). get_or (tab F n ++ drop n d) x 0) e ∙ get_or-append-add (tab F n) (drop n d) (i - n) 0
      ∙ get_or-drop n d (i - n) 0 ∙ ap (λ (x : ℕ). get_or d x 0) (add-sub_of_le l)

pub chunk_at : (r : ℕ) (F : ℕ → ℕ) (j : ℕ) → j < r → get_or (chunk_of r F) j 0 ≡ F j
unfolding chunk_of
chunk_at r F j l = new_front blank F r j l

pub length_chunk : (r : ℕ) (F : ℕ → ℕ) → r ≤ deepest → length (chunk_of r F) ≡ deepest
unfolding chunk_of
length_chunk r F h = length-append (tab F r) (drop r blank) ∙ omega (arith, length_tab F r, length-drop r blank, length_blank)

pub chunk_behind : (r : ℕ) (F : ℕ → ℕ) (j : ℕ) → r ≤ j → get_or (chunk_of r F) j 0 ≡ 0
unfolding chunk_of blank
chunk_behind r F j l = old_behind (replicate deepest 0) F r j l ∙ zeros_zero deepest j

-- the first symbols of a list that ends within the chunk
pub chunk_short : (s : List ℕ) (r : ℕ) → length s ≤ r → r ≤ deepest → chunk_of (length s) (λ j. get_or s (0 + j) 0) ≡ chunk_of r (λ j. get_or s j 0)
chunk_short s r l h = ext_get_or 0 _ _ (length_chunk (length s) _ (omega arith) ∙ sym (length_chunk r _ h)) (λ j k. left j (dec_lt j (length s)) ∙ sym (right j (dec_lt j r)))
  where
    left : (j : ℕ) → Dec (j < length s) → get_or (chunk_of (length s) (λ j. get_or s (0 + j) 0)) j 0 ≡ get_or s j 0
    left j (yes k) = chunk_at (length s) _ j k ∙ ap (λ (x : ℕ). get_or s x 0) (zero-add j)
    left j (no k) = chunk_behind (length s) _ j (omega arith) ∙ sym (get_or-eq_default s 0 {n = j} (omega arith))

    right : (j : ℕ) → Dec (j < r) → get_or (chunk_of r (λ j. get_or s j 0)) j 0 ≡ get_or s j 0
    right j (yes k) = chunk_at r _ j k
    right j (no k) = chunk_behind r _ j (omega arith) ∙ sym (get_or-eq_default s 0 {n = j} (omega arith))

pub chunk_same : (r : ℕ) (F G : ℕ → ℕ) → ((j : ℕ) → F j ≡ G j) → chunk_of r F ≡ chunk_of r G
unfolding chunk_of
chunk_same r F G e = ap (λ (s : List ℕ). s ++ drop r blank) (tab_same F G r (λ j l. e j))

-- a chunk that is copied out of a row
pub chunk_copied : (s new : List ℕ) (at r : ℕ) → at + r ≤ length s → new ≡ take r (drop at s) → new ++ drop r (replicate deepest 0) ≡ chunk_of r (λ j. get_or s (at + j) 0)
unfolding chunk_of blank
chunk_copied s new at r h e =
    let taken : take r (drop at s) ≡ tab (λ j. get_or s (at + j) 0) r =
    sym (tab_take (drop at s) r (omega (arith, length-drop at s))) ∙ tab_same _ _ r (λ j l. get_or-drop at s j 0) in
    ap (λ (c : List ℕ). c ++ drop r (replicate deepest 0)) (e ∙ taken)
