-- Damage and distance as the loops find them.
use Prim.Native.Nat.{ℕ, ◌+◌, ◌*◌, ◌-◌, ◌<◌, ◌≤◌}
use mathlib.Core.Path.{◌≡◌, refl, ap, ◌∙◌}
use mathlib.Core.List.{List}
use native.Mathlib.Nat.{mul-le-mul_right, suc-mul}
use native.Mathlib.Numerals.{add-one}
use native.Mathlib.Omega.{arith}
use lib.ListN.{length, get_or, take, drop, length-drop}
use lib.Seq.{length-take-le, get_or-drop}
use Rattle.std.proofs.lemmas.List.{get_or-take}
use Rattle.defs.specs.Place.{total}
use Rattle.defs.specs.Distance.{symbol, agree_at, damage, distance}
use Rattle.theory.proofs.Agree.{agree_le}
use Rattle.rows.specs.Chunk.{common_front, Rows}
use Rattle.rows.proofs.Chunks.{front_is}

-- chunk i ends within a row of count chunks
pub chunk_within : (r i count n : ℕ) → i < count → count * r ≤ n → i * r + r ≤ n
chunk_within r i count n l h = omega (arith, mul-le-mul_right r l, suc-mul i r)

module _ (r : ℕ) (u w : List ℕ) where
  -- the chunk i of a row, as the slice of it reads
  chunk : List ℕ → ℕ → List ℕ
  chunk s i = take (i * r + r - i * r) (drop (i * r) s)

  long : (s : List ℕ) (i : ℕ) → i * r + r ≤ length s → length (chunk s i) ≡ r
  unfolding chunk
  long s i h = length-take-le (i * r + r - i * r) (drop (i * r) s) (omega (arith, length-drop (i * r) s)) ∙ omega arith

  symbol_at : (s : List ℕ) (i j : ℕ) → j < r → get_or (chunk s i) j 0 ≡ get_or s (i * r + j) 0
  unfolding chunk
  symbol_at s i j l = get_or-take (i * r + r - i * r) (drop (i * r) s) j 0 (omega arith) ∙ get_or-drop (i * r) s j 0

  front_at : (i count : ℕ) → Rows r count u w → i < count
      → common_front (take (i * r + r - i * r) (drop (i * r) u)) (take (i * r + r - i * r) (drop (i * r) w)) ≡ agree_at r u w i
  unfolding agree_at chunk
  front_at i count h b =
      front_is r (symbol r u i) (symbol r w i) (chunk u i) (chunk w i)
      (long u i (chunk_within r i count (length u) b h.left)) (long w i (chunk_within r i count (length w) b h.right)) (symbol_at u i) (symbol_at w i)

  -- s symbols in front of chunk i are alike in both rows
  pub damage_found : (i count s : ℕ) → Rows r count u w → i < count
      → s ≡ common_front (take (i * r + r - i * r) (drop (i * r) u)) (take (i * r + r - i * r) (drop (i * r) w)) → (s ≤ r) × (r - s ≡ damage r u w i)
  unfolding damage agree_at
  damage_found i count s h b e =
      let f : s ≡ agree_at r u w i = e ∙ front_at i count h b in
      (omega (arith, f, agree_le r (symbol r u i) (symbol r w i)), ap (λ (n : ℕ). r - n) f)

  pub damage_top : (i d : ℕ) → d ≡ damage r u w i → d ≤ r
  unfolding damage
  damage_top i d e = omega (arith, e)

  pub distance_none : 0 ≡ distance r 0 u w
  unfolding distance total
  distance_none = refl

  pub distance_more : (i sum d : ℕ) → sum ≡ distance r i u w → d ≡ damage r u w i → sum + d ≡ distance r (i + 1) u w
  unfolding distance total
  distance_more i sum d e f = rw (e, f, add-one i)
