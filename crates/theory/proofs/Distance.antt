-- The distance of flat rows: symmetric, with the triangle inequality, 0 exactly for equal rows, and with the agreement the length of a row.
use Prim.Native.Nat.{ℕ, zero, suc, ◌+◌, ◌*◌, ◌/◌, ◌%◌, ◌<◌, ◌≤◌}
use mathlib.Core.Path.{◌≡◌, refl, ap, sym, subst, ◌∙◌}
use mathlib.Core.List.{List}
use native.Mathlib.Nat.{not-suc-le-zero, zero-mul, mul_comm, mod-lt, div-add-mod', div-lt_iff_lt-mul}
use native.Mathlib.Omega.{arith}
use native.Mathlib.Decide.{dec_lt}
use lib.ListN.{length, get_or}
use lib.Seq.{ext_get_or}
use Rattle.defs.specs.Place.{total}
use Rattle.defs.specs.Distance.{symbol, agree_at, damage, depths, distance}
use Rattle.theory.specs.Chunks.{agreement, apart}
use Rattle.theory.proofs.Place.{length_tab, total_const}
use Rattle.theory.proofs.Agree.{agree_eq, agree_max}
use Rattle.theory.proofs.Chunks.{apart_sym, apart_triangle, apart_agreement}

pub length_depths : (r count : ℕ) (u w : List ℕ) → length (depths r count u w) ≡ count
unfolding depths
length_depths r count u w = length_tab _ count

total_none : (n : ℕ) (F : ℕ → ℕ) → ((i : ℕ) → i < n → F i ≡ 0) → total n F ≡ 0
unfolding total
total_none zero F e = refl
total_none (suc n) F e = omega (arith, total_none n F (λ i l. e i (omega arith)), e n (omega arith))

none_total : (n : ℕ) (F : ℕ → ℕ) → total n F ≡ 0 → (i : ℕ) → i < n → F i ≡ 0
unfolding total
none_total zero F z i l = absurd (not-suc-le-zero l)
none_total (suc n) F z i l = go (dec_lt i n) (none_total n F (omega arith) i)
  where
    go : Dec (i < n) → (i < n → F i ≡ 0) → F i ≡ 0
    go (yes l') ih = ih l'
    go (no l') ih = let e : i ≡ n = omega arith in ap F e ∙ omega arith

-- the symbols of the chunks are all symbols
pub chunks_all : (r count : ℕ) (P : ℕ → Type 0) → ((i : ℕ) → i < count → (j : ℕ) → j < r → P (i * r + j)) → (x : ℕ) → x < r * count → P x
chunks_all zero count P all x l = absurd (not-suc-le-zero (rw zero-mul at l))
chunks_all (suc r) count P all x l =
    subst P (div-add-mod' x (suc r))
    (all (x / suc r) ((div-lt_iff_lt-mul {k = suc r} (omega arith)).1 (rw mul_comm at l)) (x % suc r) (mod-lt x (omega arith)))

module _ (r count : ℕ) where
  pub distance_sym : (u w : List ℕ) → distance r count u w ≡ distance r count w u
  unfolding distance damage agree_at apart
  distance_sym u w = apart_sym count (λ i. r) (symbol r u) (symbol r w)

  pub distance_triangle : (u v w : List ℕ) → distance r count u w ≤ distance r count u v + distance r count v w
  unfolding distance damage agree_at apart
  distance_triangle u v w = apart_triangle count (λ i. r) (symbol r u) (symbol r v) (symbol r w)

  pub distance_agreement : (u w : List ℕ) → distance r count u w + total count (agree_at r u w) ≡ r * count
  unfolding distance damage agree_at apart agreement
  distance_agreement u w = apart_agreement count (λ i. r) (symbol r u) (symbol r w) ∙ total_const count r

  pub distance_self : (u : List ℕ) → distance r count u u ≡ 0
  unfolding distance damage agree_at
  distance_self u = total_none count _ (λ i l. omega (arith, agree_max r r (symbol r u i) (symbol r u i) (omega arith) (λ j l'. refl)))

  pub distance_none : (u w : List ℕ) → length u ≡ r * count → length w ≡ r * count → distance r count u w ≡ 0 → u ≡ w
  unfolding distance damage agree_at
  distance_none u w e e' z =
      ext_get_or 0 u w (e ∙ sym e')
      (λ x l. chunks_all r count (λ x. get_or u x 0 ≡ get_or w x 0)
      (λ i l' j l''. agree_eq r (symbol r u i) (symbol r w i) j (omega (arith, none_total count _ z i l'))) x (omega arith))
