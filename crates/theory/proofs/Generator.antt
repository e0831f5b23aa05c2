-- 2 generates the nonzero elements of each field, by one computed test for each; so they have inverses and cancel.
use mathlib.Core.Path.{◌≡◌, refl, sym, ap, ◌∙◌, subst}
use mathlib.Core.Logic.{⊎_elim, inl, inr}
use mathlib.Core.Bool.{Bool, true, false, ◌&&◌, ◌||◌, not}
use mathlib.Core.List.{List, [], ◌∷◌}
use Prim.Native.Nat.{ℕ, zero, suc, ◌+◌, ◌-◌, ◌^◌, ◌<◌, suc-le-suc}
use native.Mathlib.Nat.{add-zero, add-suc, suc-add, zero-add, not-suc-le-zero, le_of_suc-le-suc, zero-lt-suc, eq-or-lt_of_le}
use native.Mathlib.Omega.{arith}
use lib.Dec.{T, eqb, eqb→eq, lit<, T_not, eqb_refl}
use lib.ListN.{get_or, length, drop, length-drop}
use lib.Seq.{get_or-drop}
use lib.Pow.{pow_pos}
use mir.Facts.{and_yes, or_yes, or_no}
use Rattle.defs.specs.Field.{Width, add, modulus, times2, mul, pow}
use Rattle.theory.proofs.Field as F

-- n powers of 2, of which x is the first
unfoldable pub powers : ℕ → ℕ → ℕ → List ℕ
powers m zero x = []
powers m (suc n) x = x ∷ powers m n (times2 m x)

pub powers_length : (m n x : ℕ) → length (powers m n x) ≡ n
unfolding powers
powers_length m zero x = refl
powers_length m (suc n) x = ap suc (powers_length m n (times2 m x))

powers_from : (m n i j : ℕ) → 1 < m → i < n → get_or (powers m n (pow m 2 j)) i 0 ≡ pow m 2 (j + i)
unfolding powers pow
powers_from m zero i j w h = absurd (not-suc-le-zero h)
powers_from m (suc n) zero j w h = sym (ap (pow m 2) (add-zero j))
powers_from m (suc n) (suc i) j w h =
    ap (λ (x : ℕ). get_or (powers m n x) i 0) (sym (F.two_mul m (pow m 2 j) w))
    ∙ powers_from m n i (suc j) w (le_of_suc-le-suc h) ∙ ap (pow m 2) (suc-add j i ∙ sym (add-suc j i))

pub powers_at : (m n i : ℕ) → 1 < m → i < n → get_or (powers m n 1) i 0 ≡ pow m 2 i
unfolding pow
powers_at m n i w h = powers_from m n i 0 w h ∙ ap (pow m 2) (zero-add i)

-- ---- the test

unfoldable occurs : ℕ → List ℕ → Bool
occurs a [] = false
occurs a (x ∷ xs) = eqb a x || occurs a xs

-- 1 to n occur
unfoldable all_occur : ℕ → List ℕ → Bool
all_occur zero xs = true
all_occur (suc n) xs = occurs (suc n) xs && all_occur n xs

occurs_at : (a : ℕ) (xs : List ℕ) → T (occurs a xs) → (i : ℕ) × (i < length xs) × (get_or xs i 0 ≡ a)
unfolding occurs
occurs_at a [] t = absurd t
occurs_at a (x ∷ xs) t =
    ⊎_elim (λ e. (0, zero-lt-suc (length xs), sym (eqb→eq a x e))) (λ u. later (occurs_at a xs u))
    (or_yes (eqb a x) (occurs a xs) t)
  where
    later : (i : ℕ) × (i < length xs) × (get_or xs i 0 ≡ a) → (i : ℕ) × (i < length (x ∷ xs)) × (get_or (x ∷ xs) i 0 ≡ a)
    later (i, h, e) = (suc i, suc-le-suc h, e)

occurs_not : (a : ℕ) (xs : List ℕ) → T (not (occurs a xs)) → (i : ℕ) → i < length xs → get_or xs i 0 ≡ a → ⊥
unfolding occurs
occurs_not a [] t i h e = not-suc-le-zero h
occurs_not a (x ∷ xs) t zero h e =
    T_not (eqb a x) (or_no (eqb a x) (occurs a xs) t).0 (subst (λ (y : ℕ). T (eqb a y)) (sym e) (eqb_refl a))
occurs_not a (x ∷ xs) t (suc i) h e = occurs_not a xs (or_no (eqb a x) (occurs a xs) t).1 i (le_of_suc-le-suc h) e

all_occur_at : (n : ℕ) (xs : List ℕ) → T (all_occur n xs) → (a : ℕ) → a < n → T (occurs (suc a) xs)
unfolding all_occur
all_occur_at zero xs t a h = absurd (not-suc-le-zero h)
all_occur_at (suc n) xs t a h =
    let (u, v) = and_yes (occurs (suc n) xs) (all_occur n xs) t in
    ⊎_elim (λ e. subst (λ (k : ℕ). T (occurs (suc k) xs)) (sym e) u) (λ l. all_occur_at n xs v a l)
    (eq-or-lt_of_le (le_of_suc-le-suc h))

-- 2 ^ m - 1 powers of 2: each nonzero element occurs, 1 but once, and the next power is 1
unfoldable passes : ℕ → List ℕ → Bool
passes m xs =
    all_occur (2 ^ m - 1) xs && (not (occurs 1 (drop 1 xs)) && eqb (times2 m (get_or xs (2 ^ m - 2) 0)) 1)

-- closed, so computed once
unfoldable pub exps4 : List ℕ
exps4 = powers 2 3 1

unfoldable pub exps16 : List ℕ
exps16 = powers 4 15 1

unfoldable pub exps256 : List ℕ
exps256 = powers 8 255 1

test4 : T (passes 2 exps4)
unfolding passes occurs all_occur exps4 powers times2 modulus add
test4 = tt

test16 : T (passes 4 exps16)
unfolding passes occurs all_occur exps16 powers times2 modulus add
test16 = tt

test256 : T (passes 8 exps256)
unfolding passes occurs all_occur exps256 powers times2 modulus add
test256 = tt

record Generates (m : ℕ) : Type 0 where
  wide : 1 < m
  each : (a : ℕ) → a < 2 ^ m - 1 → (i : ℕ) × (i < 2 ^ m - 1) × (pow m 2 i ≡ suc a)
  least : (i : ℕ) → suc i < 2 ^ m - 1 → pow m 2 (suc i) ≡ 1 → ⊥
  end : pow m 2 (2 ^ m - 1) ≡ 1

module _ (m : ℕ) (w : 1 < m) (xs : List ℕ) (q : xs ≡ powers m (2 ^ m - 1) 1) (t : T (passes m xs)) where
  long : length xs ≡ 2 ^ m - 1
  long = ap length q ∙ powers_length m (2 ^ m - 1) 1

  at : (i : ℕ) → i < 2 ^ m - 1 → get_or xs i 0 ≡ pow m 2 i
  at i h = ap (λ (l : List ℕ). get_or l i 0) q ∙ powers_at m (2 ^ m - 1) i w h

  parts : T (all_occur (2 ^ m - 1) xs) × (T (not (occurs 1 (drop 1 xs))) × T (eqb (times2 m (get_or xs (2 ^ m - 2) 0)) 1))
  unfolding passes
  parts = let (u, v) = and_yes (all_occur (2 ^ m - 1) xs) _ t in (u, and_yes (not (occurs 1 (drop 1 xs))) _ v)

  found : (a : ℕ) → (i : ℕ) × (i < length xs) × (get_or xs i 0 ≡ a) → (i : ℕ) × (i < 2 ^ m - 1) × (pow m 2 i ≡ a)
  found a (i, h, e) = (i, rw long at h, sym (at i (rw long at h)) ∙ e)

  first : (i : ℕ) → suc i < 2 ^ m - 1 → pow m 2 (suc i) ≡ 1 → ⊥
  first i h e =
      let k : 1 + i ≡ suc i = omega arith in
      occurs_not 1 (drop 1 xs) parts.1.0 i (simp (length-drop, long) (omega arith))
      (get_or-drop 1 xs i 0 ∙ ap (λ (j : ℕ). get_or xs j 0) k ∙ at (suc i) h ∙ e)

  last : pow m 2 (2 ^ m - 1) ≡ 1
  unfolding pow
  last =
      let k : 2 ^ m - 1 ≡ suc (2 ^ m - 2) = omega (arith, F.one_lt m w) in
      ap (pow m 2) k ∙ F.two_mul m (pow m 2 (2 ^ m - 2)) w ∙ ap (times2 m) (sym (at (2 ^ m - 2) (omega arith)))
      ∙ eqb→eq _ 1 parts.1.1

  passed : Generates m
  passed = record {
    wide = w;
    each = λ a h. found (suc a) (occurs_at (suc a) xs (all_occur_at (2 ^ m - 1) xs parts.0 a h));
    least = first;
    end = last;
  }

generates4 : Generates 2
unfolding exps4
generates4 = passed 2 (lit< tt) exps4 refl test4

generates16 : Generates 4
unfolding exps16
generates16 = passed 4 (lit< tt) exps16 refl test16

generates256 : Generates 8
unfolding exps256
generates256 = passed 8 (lit< tt) exps256 refl test256

tested : (m : ℕ) → Width m → Generates m
tested m (inl e) = subst Generates (sym e) generates4
tested m (inr (inl e)) = subst Generates (sym e) generates16
tested m (inr (inr e)) = subst Generates (sym e) generates256

-- ---- what follows, once over m

module _ (m : ℕ) (w : Width m) where
  pub one_lt : 1 < 2 ^ m
  one_lt = F.one_lt m (tested m w).wide

  pub generates : (a : ℕ) → a < 2 ^ m → (a ≡ 0 → ⊥) → (i : ℕ) × (i < 2 ^ m - 1) × (pow m 2 i ≡ a)
  generates zero h n = absurd (n refl)
  generates (suc a) h n = (tested m w).each a (omega arith)

  -- the order of 2 is 2 ^ m - 1
  pub order : pow m 2 (2 ^ m - 1) ≡ 1
  order = (tested m w).end

  pub order_least : (i : ℕ) → 0 < i → i < 2 ^ m - 1 → pow m 2 i ≡ 1 → ⊥
  order_least zero p h e = absurd (not-suc-le-zero p)
  order_least (suc i) p h e = (tested m w).least i h e

  -- the inverse of a power of 2
  pub inverse_power : (i : ℕ) → i < 2 ^ m - 1 → mul m (pow m 2 i) (pow m 2 (2 ^ m - 1 - i)) ≡ 1
  inverse_power i h =
      let whole : i + (2 ^ m - 1 - i) ≡ 2 ^ m - 1 = omega arith in
      sym (F.pow-add m 2 i (2 ^ m - 1 - i) one_lt) ∙ ap (pow m 2) whole ∙ order

  pub inverse : (a : ℕ) → a < 2 ^ m → (a ≡ 0 → ⊥) → (b : ℕ) × (b < 2 ^ m) × (mul m a b ≡ 1)
  inverse a h n =
      let (i, l, e) = generates a h n in
      let v : ℕ = pow m 2 (2 ^ m - 1 - i) in
      (v, F.pow-lt m 2 (2 ^ m - 1 - i) one_lt, ap (λ (x : ℕ). mul m x v) (sym e) ∙ inverse_power i l)

  -- b from a b
  undo : (a b v : ℕ) → b < 2 ^ m → mul m a v ≡ 1 → mul m v (mul m a b) ≡ b
  undo a b v h e = sym (F.mul_assoc m v a b) ∙ ap (λ (x : ℕ). mul m x b) (F.mul_comm m v a ∙ e) ∙ F.one_mul_of_lt m b h

  pub cancel : (a b c : ℕ) → a < 2 ^ m → b < 2 ^ m → c < 2 ^ m → (a ≡ 0 → ⊥) → mul m a b ≡ mul m a c → b ≡ c
  cancel a b c ha hb hc n e =
      let (v, _, u) = inverse a ha n in
      sym (undo a b v hb u) ∙ ap (mul m v) e ∙ undo a c v hc u

  pub no_zero_divisors : (a b : ℕ) → a < 2 ^ m → b < 2 ^ m → (a ≡ 0 → ⊥) → mul m a b ≡ 0 → b ≡ 0
  no_zero_divisors a b ha hb n e = cancel a b 0 ha hb (pow_pos m) n (e ∙ sym (F.mul_0 m a))
