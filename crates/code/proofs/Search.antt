-- The searches for the least bad index: a symbol outside the field, and a symbol that equals an earlier one.
use Prim.Native.Nat.{ℕ, suc, ◌+◌, ◌^◌, ◌<◌}
use mathlib.Core.Bool.{Bool, true, false}
use mathlib.Core.Path.{◌≡◌, refl, ap, sym, subst, ◌∙◌}
use mathlib.Core.List.{List, [], ◌∷◌}
use native.Nat.{ℕᴺ_discrete}
use native.Mathlib.Omega.{arith}
use lib.Dec.{eqb, ltb, leb}
use lib.ListN.{length, get_or, set, replicate, length-set, length-replicate}
use lib.Seq.{get_or-set_same, get_or-set_other}
use borrow.Author.Tests.{ltb-false, eqb-false, ne_eqb, lt-ltb, le-ltb}
use Rattle.std.specs.List.{position, position_or_len}
use Rattle.std.proofs.Common.{add_comm, add-one, Some, None, Err}
use Rattle.std.proofs.lemmas.List.{get_or-replicate}
use Rattle.defs.specs.Place.{least, first_high}
use Rattle.defs.specs.Refusal.{Verdict, refuse}
use Rattle.defs.specs.Limits.{first_twice}
use Rattle.defs.specs.declared.Refusal.{Refusal}
use Rattle.theory.proofs.Place.{least_none, least_all, found_least, none_least}
use Rattle.code.specs.Checked.{found}

-- where the first item stands that passes
least_step : (p : ℕ → Bool) (x : ℕ) (s : List ℕ) → position_or_len p s ≡ least (λ i. p (get_or s i 0)) (length s)
    → (b : Bool) → p x ≡ b → position_or_len p (x ∷ s) ≡ least (λ i. p (get_or (x ∷ s) i 0)) (length (x ∷ s))
unfolding least
least_step p x s e true f = rw f refl
least_step p x s e false f = rw f (add_comm 1 _ ∙ add-one _ ∙ ap (λ (n : ℕ). suc n) e)

least_position : (p : ℕ → Bool) (s : List ℕ) → position_or_len p s ≡ least (λ i. p (get_or s i 0)) (length s)
unfolding least
least_position p [] = refl
least_position p (x ∷ s) = least_step p x s (least_position p s) (p x) refl

pub position_high : (m : ℕ) (s : List ℕ) → position (λ x. leb (2 ^ m) x) s ≡ found (first_high m s) (length s)
unfolding first_high
position_high m s = ap (λ (i : ℕ). found i (length s)) (least_position (λ x. leb (2 ^ m) x) s)

-- a search stops at the least index that passes, or meets none
found_here : (p : ℕ → Bool) (n i : ℕ) → i < n → ((j : ℕ) → j < i → p j ≡ false) → p i ≡ true → Some i ≡ found (least p n) n
found_here p n i l e t =
    let q : i ≡ least p n = found_least _ _ _ (omega arith) e t in
    rw (← q, lt-ltb i n l)

found_none : (p : ℕ → Bool) (n : ℕ) → ((j : ℕ) → j < n → p j ≡ false) → None ≡ found (least p n) n
found_none p n e =
    let q : n ≡ least p n = none_least _ n _ (omega arith) (omega arith) e in
    rw (← q, le-ltb n n (omega arith))

-- what a search answers decides a refusal x
module _ (x : ℕ → Refusal) (v : Verdict) (h n : ℕ) where
  pub found_refused : (i : ℕ) → Some i ≡ found h n → refuse (ltb h n) (x h) v ≡ Err (x i)
  unfolding refuse
  found_refused i e = go (ltb h n) refl
    where
      go : (b : Bool) → ltb h n ≡ b → refuse (ltb h n) (x h) v ≡ Err (x i)
      go true q = let f : Some i ≡ Some h = e ∙ rw q in rw q (cc)
      go false q = let f : Some i ≡ None = e ∙ rw q in cc

  pub none_refused : None ≡ found h n → refuse (ltb h n) (x h) v ≡ v
  unfolding refuse
  none_refused e = go (ltb h n) refl
    where
      go : (b : Bool) → ltb h n ≡ b → refuse (ltb h n) (x h) v ≡ v
      go true q = let f : Some h ≡ None = sym (rw q) ∙ sym e in cc
      go false q = rw q

-- x is none of the first i symbols of s
abbrev pub Fresh : List ℕ → ℕ → ℕ → Type 0
Fresh s i x = (j : ℕ) → j < i → get_or s j 0 ≡ x → ⊥

-- the symbol at i equals an earlier one
abbrev pub twice_at : List ℕ → ℕ → Bool
twice_at s i = ltb (least (λ j. eqb (get_or s j 0) (get_or s i 0)) i) i

-- a table that marks the symbols seen so far finds a repeated one in one pass: it is clear exactly at the numbers that are none of the first i symbols
pub record Seen (s : List ℕ) (i : ℕ) (seen : List Bool) : Type 0 where
  pub size : length seen ≡ 256
  pub clear : (x : ℕ) → x < 256 → get_or seen x false ≡ false → Fresh s i x
  pub marked : (x : ℕ) → x < 256 → get_or seen x false ≡ true → Fresh s i x → ⊥

pub seen_first : (s : List ℕ) → Seen s 0 (replicate 256 false)
seen_first s = record {
  size = length-replicate {A = Bool} 256 false;
  clear = λ x h e j l. absurd (omega arith);
  marked = λ x l h f. let e : get_or (replicate 256 false) x false ≡ false = get_or-replicate 256 x false false l in cc;
}

module _ (s : List ℕ) (i : ℕ) (seen : List Bool) (h : Seen s i seen) where
  -- the symbol at i is marked
  pub seen_more : get_or s i 0 < 256 → Seen s (i + 1) (set seen (get_or s i 0) true)
  seen_more b = record { size = length-set seen (get_or s i 0) true ∙ h.size; clear = unmarked; marked = met }
    where
      unmarked : (x : ℕ) → x < 256 → get_or (set seen (get_or s i 0) true) x false ≡ false → Fresh s (i + 1) x
      unmarked x l e = go (ℕᴺ_discrete x (get_or s i 0))
        where
          go : Dec (x ≡ get_or s i 0) → Fresh s (i + 1) x
          go (yes q) =
              let f : get_or (set seen (get_or s i 0) true) (get_or s i 0) false ≡ true = get_or-set_same seen (get_or s i 0) true false (omega (arith, h.size)) in
              let g : get_or (set seen (get_or s i 0) true) (get_or s i 0) false ≡ false = subst (λ (y : ℕ). get_or (set seen (get_or s i 0) true) y false ≡ false) q e in
              cc
          go (no q) = λ j k f. here j k f (ℕᴺ_discrete j i)
            where
              here : (j : ℕ) → j < i + 1 → get_or s j 0 ≡ x → Dec (j ≡ i) → ⊥
              here j k f (yes z) = q (sym f ∙ ap (λ (y : ℕ). get_or s y 0) z)
              here j k f (no z) = h.clear x l (sym (get_or-set_other seen (get_or s i 0) x true false q) ∙ e) j (omega arith) f

      met : (x : ℕ) → x < 256 → get_or (set seen (get_or s i 0) true) x false ≡ true → Fresh s (i + 1) x → ⊥
      met x k n f = go (ℕᴺ_discrete x (get_or s i 0))
        where
          go : Dec (x ≡ get_or s i 0) → ⊥
          go (yes q) = f i (omega arith) (sym q)
          go (no q) = h.marked x k (sym (get_or-set_other seen (get_or s i 0) x true false q) ∙ n) (λ j l. f j (omega arith))

  pub twice_here : get_or s i 0 < 256 → get_or seen (get_or s i 0) false ≡ true → twice_at s i ≡ true
  twice_here b n = go (twice_at s i) refl
    where
      go : (b : Bool) → twice_at s i ≡ b → twice_at s i ≡ true
      go true e = e
      go false e = absurd (h.marked (get_or s i 0) b n (λ j l. eqb-false _ _ (least_all _ i (ltb-false _ _ e) j l)))

  pub once_here : get_or s i 0 < 256 → get_or seen (get_or s i 0) false ≡ false → twice_at s i ≡ false
  once_here b e =
      let q : least (λ j. eqb (get_or s j 0) (get_or s i 0)) i ≡ i = least_none _ i (λ j l. ne_eqb _ _ (h.clear (get_or s i 0) b e j l)) in
      le-ltb _ i (omega arith)

-- the least index of a repeated point, at which the search stops or which it does not meet
pub twice_found : (s : List ℕ) (i : ℕ) → i < length s → ((j : ℕ) → j < i → twice_at s j ≡ false) → twice_at s i ≡ true
    → Some i ≡ found (first_twice s) (length s)
unfolding first_twice
twice_found s i l e t = found_here (twice_at s) (length s) i l e t

pub twice_none : (s : List ℕ) → ((j : ℕ) → j < length s → twice_at s j ≡ false) → None ≡ found (first_twice s) (length s)
unfolding first_twice
twice_none s e = found_none (twice_at s) (length s) e

-- the least index of a symbol outside the field, likewise
pub high_found : (m : ℕ) (s : List ℕ) (i : ℕ) → i < length s → ((j : ℕ) → j < i → leb (2 ^ m) (get_or s j 0) ≡ false) → leb (2 ^ m) (get_or s i 0) ≡ true
    → Some i ≡ position (λ x. leb (2 ^ m) x) s
unfolding first_high
high_found m s i l e t = found_here (λ j. leb (2 ^ m) (get_or s j 0)) (length s) i l e t ∙ sym (position_high m s)

pub high_none : (m : ℕ) (s : List ℕ) → ((j : ℕ) → j < length s → leb (2 ^ m) (get_or s j 0) ≡ false) → None ≡ position (λ x. leb (2 ^ m) x) s
unfolding first_high
high_none m s e = found_none (λ j. leb (2 ^ m) (get_or s j 0)) (length s) e ∙ sym (position_high m s)
