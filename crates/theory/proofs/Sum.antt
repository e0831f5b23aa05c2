-- The laws of sums in the field, whole and from a term on, and of convolutions.
use Prim.Native.Nat.{ℕ, zero, suc, ◌+◌, ◌-◌, ◌^◌, ◌<◌, ◌≤◌, suc-le-suc}
use mathlib.Core.Path.{◌≡◌, refl, ap, ap₂, sym, ◌∙◌}
use native.Mathlib.Nat.{sub-zero, suc-sub-suc, zero-sub, suc-add, zero-add, not-suc-le-zero}
use native.Mathlib.Omega.{arith}
use lib.Pow.{pow_pos}
use Rattle.defs.specs.Field.{add, mul}
use Rattle.defs.specs.Row.{sum, sum_from}
use Rattle.theory.specs.Key.{conv}
use Rattle.theory.proofs.Field.{sums, ring, 0-add, mul_add_l, mul_assoc, 0-mul, add_0, add_assoc, add_lt}

pub sum_suc : (n : ℕ) (F : ℕ → ℕ) → sum (suc n) F ≡ add (F 0) (sum n (λ i. F (suc i)))
unfolding sum
sum_suc n F = refl

pub sum_ext : (n : ℕ) (F G : ℕ → ℕ) → ((i : ℕ) → i < n → F i ≡ G i) → sum n F ≡ sum n G
unfolding sum
sum_ext zero F G e = refl
sum_ext (suc n) F G e = rw (e 0 (omega arith), sum_ext n (λ i. F (suc i)) (λ i. G (suc i)) (λ i l. e (suc i) (suc-le-suc l)))

pub sum_last : (n : ℕ) (F : ℕ → ℕ) → sum (suc n) F ≡ add (sum n F) (F n)
unfolding sum
sum_last zero F = add_0 (F 0) ∙ sym (0-add (F 0))
sum_last (suc n) F = ap (add (F 0)) (sum_last n (λ i. F (suc i))) ∙ sym (add_assoc (F 0) _ _)

pub sum_add : (n : ℕ) (F G : ℕ → ℕ) → sum n (λ i. add (F i) (G i)) ≡ add (sum n F) (sum n G)
unfolding sum
sum_add zero F G = simp sums
sum_add (suc n) F G = rw (sum_add n (λ i. F (suc i)) (λ i. G (suc i))) (simp sums)

pub sum_zero : (n : ℕ) (F : ℕ → ℕ) → ((i : ℕ) → i < n → F i ≡ 0) → sum n F ≡ 0
unfolding sum
sum_zero zero F e = refl
sum_zero (suc n) F e = rw (e 0 (omega arith), sum_zero n (λ i. F (suc i)) (λ i l. e (suc i) (suc-le-suc l))) (simp sums)

-- terms that vanish below j may be left out
pub sum_from_lem : (j n : ℕ) (F : ℕ → ℕ) → ((i : ℕ) → i < j → F i ≡ 0) → sum n F ≡ sum_from j n F
unfolding sum_from sum
sum_from_lem zero n F z = simp (sub-zero, zero-add)
sum_from_lem (suc j) zero F z = rw zero-sub
sum_from_lem (suc j) (suc n) F z =
    simp (suc-sub-suc, suc-add) (rw (z 0 (omega arith), sum_from_lem j n (λ i. F (suc i)) (λ i l. z (suc i) (suc-le-suc l))) (simp 0-add))

-- the sum over n + k terms, split
pub sum_split : (n k : ℕ) (F : ℕ → ℕ) → sum (n + k) F ≡ add (sum n F) (sum k (λ i. F (n + i)))
unfolding sum
sum_split zero k F = simp (zero-add, 0-add)
sum_split (suc n) k F = simp suc-add (ap (add (F 0)) (sum_split n k (λ i. F (suc i))) ∙ sym (add_assoc _ _ _))

pub sum_exchange : (n k : ℕ) (F : ℕ → ℕ → ℕ) → sum n (λ i. sum k (F i)) ≡ sum k (λ j. sum n (λ i. F i j))
unfolding sum
sum_exchange zero k F = sym (sum_zero k _ (λ i l. refl))
sum_exchange (suc n) k F =
    ap (add (sum k (F 0))) (sum_exchange n k (λ i. F (suc i))) ∙ sym (sum_add k (F 0) (λ j. sum n (λ i. F (suc i) j)))

pub sum_lt : (m n : ℕ) (f : ℕ → ℕ) → ((j : ℕ) → f j < 2 ^ m) → sum n f < 2 ^ m
unfolding sum
sum_lt m zero f h = pow_pos m
sum_lt m (suc n) f h = add_lt m _ _ (h 0) (sum_lt m n (λ j. f (suc j)) (λ j. h (suc j)))

-- terms that are 0 from n on
pub sum_cut : (n k : ℕ) (f : ℕ → ℕ) → ((j : ℕ) → n ≤ j → j < k → f j ≡ 0) → n ≤ k → sum k f ≡ sum n f
unfolding sum
sum_cut zero k f h l = sum_zero k f (λ j i. h j (omega arith) i)
sum_cut (suc n) zero f h l = absurd (not-suc-le-zero l)
sum_cut (suc n) (suc k) f h l = ap (add (f 0)) (sum_cut n k (λ j. f (suc j)) (λ j i b. h (suc j) (omega arith) (omega arith)) (omega arith))

-- the sum over k ≤ j < n, its terms counted from 0
tail : (k n p : ℕ) (f g : ℕ → ℕ) → n ≡ k + p → ((j : ℕ) → f (k + j) ≡ g j) → sum_from k n f ≡ sum p g
unfolding sum_from
tail k n p f g e h =
    let d : n - k ≡ p = omega arith in
    ap (λ (i : ℕ). sum i (λ j. f (k + j))) d ∙ sum_ext p (λ j. f (k + j)) g (λ j l. h j)

pub tail_more : (k n : ℕ) (f : ℕ → ℕ) → k < n → sum_from k n f ≡ add (f k) (sum_from (suc k) n f)
unfolding sum
tail_more k n f l =
    tail k n (suc (n - suc k)) f (λ j. f (k + j)) (omega arith) (λ j. refl)
    ∙ ap₂ add first (sym (tail (suc k) n (n - suc k) f (λ j. f (k + suc j)) (omega arith) next))
  where
    first : f (k + 0) ≡ f k
    first = let e : k + 0 ≡ k = omega arith in ap f e

    next : (j : ℕ) → f (suc k + j) ≡ f (k + suc j)
    next j = let e : suc k + j ≡ k + suc j = omega arith in ap f e

pub tail_same : (k n : ℕ) (f g : ℕ → ℕ) → ((j : ℕ) → k ≤ j → f j ≡ g j) → sum_from k n f ≡ sum_from k n g
unfolding sum_from
tail_same k n f g h = sum_ext (n - k) (λ j. f (k + j)) (λ j. g (k + j)) (λ j i. h (k + j) (omega arith))

pub tail_zero : (k n : ℕ) (f : ℕ → ℕ) → ((j : ℕ) → k ≤ j → j < n → f j ≡ 0) → sum_from k n f ≡ 0
unfolding sum_from
tail_zero k n f h = sum_zero (n - k) (λ j. f (k + j)) (λ j i. h (k + j) (omega arith) (omega arith))

module _ (m : ℕ) where
  pub sum_scale : (n c : ℕ) (F : ℕ → ℕ) → sum n (λ i. mul m c (F i)) ≡ mul m c (sum n F)
  unfolding sum
  sum_scale zero c F = simp ring
  sum_scale (suc n) c F = rw (sum_scale n c (λ i. F (suc i))) (simp ring)

  pub conv_zero : (F G : ℕ → ℕ) → conv m 0 F G ≡ mul m (F 0) (G 0)
  unfolding conv sum
  conv_zero F G = simp ring

  pub conv_suc : (j : ℕ) (F G : ℕ → ℕ) → conv m (suc j) F G ≡ add (mul m (F 0) (G (suc j))) (conv m j (λ a. F (suc a)) G)
  unfolding conv
  conv_suc j F G = rw (sum_suc (suc j)) (simp (suc-sub-suc, sub-zero))

  pub conv_ext : (j : ℕ) (F F' G : ℕ → ℕ) → ((a : ℕ) → a ≤ j → F a ≡ F' a) → conv m j F G ≡ conv m j F' G
  unfolding conv
  conv_ext j F F' G e = sum_ext (suc j) _ _ (λ a l. rw (e a (omega arith)))

  pub conv_add : (j : ℕ) (F F' G : ℕ → ℕ) → conv m j (λ a. add (F a) (F' a)) G ≡ add (conv m j F G) (conv m j F' G)
  unfolding conv
  conv_add j F F' G = simp mul_add_l (sum_add (suc j) _ _)

  conv_scale : (j c : ℕ) (F G : ℕ → ℕ) → conv m j (λ a. mul m c (F a)) G ≡ mul m c (conv m j F G)
  unfolding conv
  conv_scale j c F G = simp mul_assoc (sum_scale (suc j) c _)

  pub conv_combine : (j c : ℕ) (F F' G : ℕ → ℕ) → conv m j (λ a. add (F a) (mul m c (F' a))) G ≡ add (conv m j F G) (mul m c (conv m j F' G))
  conv_combine j c F F' G = conv_add j F _ G ∙ ap (λ (x : ℕ). add (conv m j F G) x) (conv_scale j c F' G)

  pub conv_terms : (j : ℕ) (F G : ℕ → ℕ) → ((a : ℕ) → a ≤ j → mul m (F a) (G (j - a)) ≡ 0) → conv m j F G ≡ 0
  unfolding conv
  conv_terms j F G z = sum_zero (suc j) _ (λ a l. z a (omega arith))

  pub conv_none : (j : ℕ) (G : ℕ → ℕ) → conv m j (λ a. 0) G ≡ 0
  conv_none j G = conv_terms j _ G (λ a l. 0-mul m _)
