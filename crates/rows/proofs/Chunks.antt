-- What a chunk is whose symbols are written one by one, and how deep two chunks agree.
use Prim.Native.Nat.{ℕ, suc, ◌<◌, ◌≤◌}
use mathlib.Core.Path.{◌≡◌, refl, ap, sym, ◌∙◌}
use mathlib.Core.Bool.{Bool, true, false, cond, not}
use mathlib.Core.List.{List, [], ◌∷◌}
use native.Mathlib.Decide.{dec_lt}
use native.Mathlib.Omega.{arith}
use lib.Dec.{eqb}
use lib.ListN.{length, get_or}
use lib.Seq.{ext_get_or}
use Rattle.std.specs.List.{take_while, zip}
use Rattle.std.proofs.lemmas.List.Sums.{take_while-cons}
use Rattle.defs.specs.Place.{least}
use Rattle.defs.specs.Distance.{agree}
use Rattle.defs.specs.Limits.{deepest}
use Rattle.theory.proofs.Agree.{agree_ext}
use Rattle.code.specs.Chunk.{chunk_of}
use Rattle.code.proofs.Chunks.{chunk_at, length_chunk, chunk_behind}
use Rattle.rows.specs.Chunk.{common_front}

-- the first r symbols are written, and the others are 0
pub chunk_is : (r : ℕ) (F : ℕ → ℕ) (chunk : List ℕ) → length chunk ≡ deepest → r ≤ deepest → ((j : ℕ) → j < r → get_or chunk j 0 ≡ F j)
    → ((j : ℕ) → r ≤ j → get_or chunk j 0 ≡ 0) → chunk ≡ chunk_of r F
chunk_is r F chunk size h written rest = ext_get_or 0 chunk (chunk_of r F) (size ∙ sym (length_chunk r F h)) (λ j l. go j (dec_lt j r))
  where
    go : (j : ℕ) → Dec (j < r) → get_or chunk j 0 ≡ get_or (chunk_of r F) j 0
    go j (yes y) = written j y ∙ sym (chunk_at r F j y)
    go j (no n) = rest j (omega arith) ∙ sym (chunk_behind r F j (omega arith))

pub front_agrees : (u v : List ℕ) → length u ≡ length v → common_front u v ≡ agree (length u) (λ j. get_or u j 0) (λ j. get_or v j 0)
unfolding agree least
front_agrees [] v e = refl
front_agrees (x ∷ u) [] e = absurd (omega arith)
front_agrees (x ∷ u) (y ∷ v) e = rw (take_while-cons (λ p. eqb p.0 p.1) (x, y) (zip u v)) (go (eqb x y) (front_agrees u v (omega arith)))
  where
    go : (b : Bool) → common_front u v ≡ agree (length u) (λ j. get_or u j 0) (λ j. get_or v j 0)
        → length (cond b ((x, y) ∷ take_while (λ p. eqb p.0 p.1) (zip u v)) []) ≡ cond (not b) 0 (suc (least (λ j. not (eqb (get_or u j 0) (get_or v j 0))) (length u)))
    go true h = ap suc h
    go false h = refl

-- what chunks of r symbols have alike in front is the depth to which they agree
pub front_is : (r : ℕ) (F G : ℕ → ℕ) (u v : List ℕ) → length u ≡ r → length v ≡ r → ((j : ℕ) → j < r → get_or u j 0 ≡ F j)
    → ((j : ℕ) → j < r → get_or v j 0 ≡ G j) → common_front u v ≡ agree r F G
front_is r F G u v d e f g =
    front_agrees u v (d ∙ sym e) ∙ ap (λ (n : ℕ). agree n (λ j. get_or u j 0) (λ j. get_or v j 0)) d ∙ agree_ext r _ _ _ _ f g
