-- The laws of least, tab and total, and of lists of zeros.
use Prim.Native.Nat.{ℕ, zero, suc, ◌+◌, ◌*◌, ◌^◌, ◌<◌, ◌≤◌, zero-le, suc-le-suc}
use mathlib.Core.Bool.{Bool, true, false, cond}
use mathlib.Core.Path.{◌≡◌, refl, ap, sym, ◌∙◌}
use mathlib.Core.List.{List, [], ◌∷◌, ◌++◌}
use native.Mathlib.Nat.{not-suc-le-zero, le_of_suc-le-suc, zero-add, suc-add, mul-zero, mul-suc}
use native.Mathlib.Omega.{arith}
use native.Mathlib.Decide.{dec_lt}
use lib.ListN.{length, get_or, take, replicate, get_or-eq_default}
use lib.Pow.{pow_pos}
use borrow.Author.Tests.{leb-false}
use Rattle.defs.specs.Place.{least, tab, total, Symbols, first_high}
use Rattle.defs.specs.Pair.{Zero}

-- ---- least

pub least_is : (p : ℕ → Bool) (i n : ℕ) → i < n → ((j : ℕ) → j < i → p j ≡ false) → p i ≡ true → least p n ≡ i
unfolding least
least_is p i zero h all here = absurd (omega arith)
least_is p zero (suc n) h all here = rw here
least_is p (suc i) (suc n) h all here =
    rw (all zero (omega arith)) (ap suc (least_is (λ j. p (suc j)) i n (omega arith) (λ j l. all (suc j) (omega arith)) here))

cond_le : (b : Bool) (x n : ℕ) → x ≤ n → cond b 0 (suc x) ≤ suc n
cond_le true x n l = zero-le
cond_le false x n l = suc-le-suc l

pub least_le : (p : ℕ → Bool) (n : ℕ) → least p n ≤ n
unfolding least
least_le p zero = zero-le
least_le p (suc n) = cond_le (p 0) _ n (least_le (λ i. p (suc i)) n)

-- where the test fails at every index before s, it is s or more
pub least_max : (p : ℕ → Bool) (n s : ℕ) → s ≤ n → ((j : ℕ) → j < s → p j ≡ false) → s ≤ least p n
unfolding least
least_max p n zero l all = zero-le
least_max p zero (suc s) l all = absurd (not-suc-le-zero l)
least_max p (suc n) (suc s) l all =
    rw (all zero (omega arith)) (suc-le-suc (least_max (λ j. p (suc j)) n s (le_of_suc-le-suc l) (λ j l'. all (suc j) (omega arith))))

pub least_none : (p : ℕ → Bool) (n : ℕ) → ((j : ℕ) → j < n → p j ≡ false) → least p n ≡ n
least_none p n all = omega (arith, least_le p n, least_max p n n (omega arith) all)

-- the two ways out of a loop that looks for it
pub found_least : (p : ℕ → Bool) (i n : ℕ) → i < n → ((j : ℕ) → j < i → p j ≡ false) → p i ≡ true → i ≡ least p n
found_least p i n h all here = sym (least_is p i n h all here)

pub none_least : (p : ℕ → Bool) (i n : ℕ) → i ≤ n → n ≤ i → ((j : ℕ) → j < i → p j ≡ false) → i ≡ least p n
none_least p i n h g all =
    let e : i ≡ n = omega arith in
    e ∙ sym (least_none p n (λ j l. all j (omega arith)))

-- the test fails at every index before it
pub least_before : (p : ℕ → Bool) (n j : ℕ) → j < least p n → p j ≡ false
unfolding least
least_before p zero j l = absurd (not-suc-le-zero l)
least_before p (suc n) j l = go (p 0) refl (least_before (λ x. p (suc x)) n) j l
  where
    go : (b : Bool) → p 0 ≡ b → ((i : ℕ) → i < least (λ x. p (suc x)) n → p (suc i) ≡ false)
        → (i : ℕ) → i < cond b 0 (suc (least (λ x. p (suc x)) n)) → p i ≡ false
    go true e ih i k = absurd (not-suc-le-zero k)
    go false e ih zero k = e
    go false e ih (suc i) k = ih i (le_of_suc-le-suc k)

-- where the least is n, the test fails everywhere below n
pub least_all : (p : ℕ → Bool) (n : ℕ) → n ≤ least p n → (j : ℕ) → j < n → p j ≡ false
least_all p n h j l = least_before p n j (omega arith)

-- where no symbol is found to be high, all are symbols of the field
pub none_high : (m : ℕ) (s : List ℕ) → length s ≤ first_high m s → Symbols m s
unfolding first_high
none_high m s h i = go (dec_lt i (length s))
  where
    go : Dec (i < length s) → get_or s i 0 < 2 ^ m
    go (yes l) = leb-false (2 ^ m) (get_or s i 0) (least_all _ (length s) h i l)
    go (no l) = rw (get_or-eq_default s 0 {n = i} (omega arith)) (pow_pos m)

-- ---- tab

pub length_tab : (F : ℕ → ℕ) (n : ℕ) → length (tab F n) ≡ n
unfolding tab
length_tab F zero = refl
length_tab F (suc n) = ap suc (length_tab (λ i. F (suc i)) n)

pub get_d_tab : (F : ℕ → ℕ) (n i : ℕ) → i < n → get_or (tab F n) i 0 ≡ F i
unfolding tab
get_d_tab F zero i h = absurd (omega arith)
get_d_tab F (suc n) zero h = refl
get_d_tab F (suc n) (suc i) h = get_d_tab (λ j. F (suc j)) n i (omega arith)

pub tab_snoc : (F : ℕ → ℕ) (n : ℕ) → tab F (suc n) ≡ tab F n ++ (F n ∷ [])
unfolding tab
tab_snoc F zero = refl
tab_snoc F (suc n) = ap (λ (l : List ℕ). F zero ∷ l) (tab_snoc (λ i. F (suc i)) n)

pub tab_append : (F : ℕ → ℕ) (a b : ℕ) → tab F (a + b) ≡ tab F a ++ tab (λ j. F (a + j)) b
unfolding tab
tab_append F zero b = simp zero-add
tab_append F (suc a) b = rw (suc-add, tab_append (λ i. F (suc i)) a b) (simp suc-add)

-- two functions that agree below n have one list
pub tab_same : (F G : ℕ → ℕ) (n : ℕ) → ((i : ℕ) → i < n → F i ≡ G i) → tab F n ≡ tab G n
unfolding tab
tab_same F G zero h = refl
tab_same F G (suc n) h = cc (h zero (omega arith), tab_same (λ i. F (suc i)) (λ i. G (suc i)) n (λ i l. h (suc i) (omega arith)))

-- a list is the list of its own elements, and a front of it of the first
pub tab_get_d : (s : List ℕ) → tab (λ i. get_or s i 0) (length s) ≡ s
unfolding tab
tab_get_d [] = refl
tab_get_d (x ∷ s) = ap (λ (l : List ℕ). x ∷ l) (tab_get_d s)

pub tab_take : (s : List ℕ) (n : ℕ) → n ≤ length s → tab (λ i. get_or s i 0) n ≡ take n s
unfolding tab
tab_take s zero h = refl
tab_take [] (suc n) h = absurd (omega arith)
tab_take (x ∷ s) (suc n) h = ap (λ (l : List ℕ). x ∷ l) (tab_take s n (omega arith))

-- ---- total

pub total_ext : (n : ℕ) (F G : ℕ → ℕ) → ((i : ℕ) → i < n → F i ≡ G i) → total n F ≡ total n G
unfolding total
total_ext zero F G e = refl
total_ext (suc n) F G e = rw (total_ext n F G (λ i l. e i (omega arith)), e n (omega arith))

pub total_mono : (n : ℕ) (F G : ℕ → ℕ) → ((i : ℕ) → i < n → F i ≤ G i) → total n F ≤ total n G
unfolding total
total_mono zero F G l = omega arith
total_mono (suc n) F G l = omega (arith, total_mono n F G (λ i l'. l i (omega arith)), l n (omega arith))

pub total_sum : (n : ℕ) (F G : ℕ → ℕ) → total n (λ i. F i + G i) ≡ total n F + total n G
unfolding total
total_sum zero F G = refl
total_sum (suc n) F G = omega (arith, total_sum n F G)

pub total_const : (n r : ℕ) → total n (λ i. r) ≡ r * n
unfolding total
total_const zero r = sym (mul-zero r)
total_const (suc n) r = rw (total_const n r) (sym (mul-suc r n))

-- ---- zeros

pub zeros_zero : (k : ℕ) → Zero (replicate k 0)
zeros_zero zero i = refl
zeros_zero (suc k) zero = refl
zeros_zero (suc k) (suc i) = zeros_zero k i

pub zeros_symbols : (m k : ℕ) → Symbols m (replicate k 0)
zeros_symbols m k i = rw (zeros_zero k i) (pow_pos m)
