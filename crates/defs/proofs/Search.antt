-- Tests that go through all messages of a code by computation, and that no message is left out.
use Prim.Native.Nat.{ℕ, zero, suc, ◌<◌}
use mathlib.Core.Path.{◌≡◌, refl, ap, sym, subst}
use mathlib.Core.Logic.{◌⊎◌, inl, inr}
use mathlib.Core.Bool.{Bool, true, false}
use mathlib.Core.List.{List, [], ◌∷◌}
use native.Mathlib.Nat.{eq-or-lt_of_le, le_of_suc-le-suc, not-suc-le-zero, suc_inj}
use native.Mathlib.Omega.{arith}
use lib.Dec.{T, eqb, ltb, eqb→eq, ltb→lt}
use lib.ListN.{length, get_or}

unfoldable pub both : Bool → Bool → Bool
both true b = b
both false b = false

unfoldable pub either : Bool → Bool → Bool
either true b = true
either false b = b

pub both_left : (a b : Bool) → T (both a b) → T a
unfolding both
both_left true b t = tt
both_left false b t = t

pub both_right : (a b : Bool) → T (both a b) → T b
unfolding both
both_right true b t = t
both_right false b t = absurd t

both_make : (a b : Bool) → T a → T b → T (both a b)
unfolding both
both_make true b t u = u
both_make false b t u = t

pub either_other : (a b : Bool) → (T a → ⊥) → T (either a b) → T b
unfolding either
either_other true b n t = absurd (n tt)
either_other false b n t = t

-- the test passes at each number below n
unfoldable pub all : ℕ → (ℕ → Bool) → Bool
all zero p = true
all (suc n) p = both (p n) (all n p)

pub all_at : (n : ℕ) (p : ℕ → Bool) → T (all n p) → (k : ℕ) → k < n → T (p k)
unfolding all
all_at zero p t k h = absurd (not-suc-le-zero h)
all_at (suc n) p t k h = go (eq-or-lt_of_le (le_of_suc-le-suc h)) (all_at n p (both_right (p n) (all n p) t) k)
  where
    go : (k ≡ n) ⊎ (k < n) → (k < n → T (p k)) → T (p k)
    go (inl e) r = subst (λ (x : ℕ). T (p x)) (sym e) (both_left (p n) (all n p) t)
    go (inr l) r = r l

pub all_make : (n : ℕ) (p : ℕ → Bool) → ((k : ℕ) → k < n → T (p k)) → T (all n p)
unfolding all
all_make zero p h = tt
all_make (suc n) p h = both_make (p n) (all n p) (h n (omega arith)) (all_make n p (λ k l. h k (omega arith)))

-- the test passes at every list of k symbols below q
unfoldable pub every : ℕ → ℕ → (List ℕ → Bool) → Bool
every q zero p = p []
every q (suc k) p = all q (λ a. every q k (λ f. p (a ∷ f)))

-- every such list is met
pub every_at : (q k : ℕ) (p : List ℕ → Bool) → T (every q k p) → (f : List ℕ) → length f ≡ k → ((i : ℕ) → get_or f i 0 < q) → T (p f)
unfolding every
every_at q zero p t [] e s = t
every_at q zero p t (a ∷ f) e s = absurd (omega arith)
every_at q (suc k) p t [] e s = absurd (omega arith)
every_at q (suc k) p t (a ∷ f) e s =
    every_at q k (λ g. p (a ∷ g)) (all_at q (λ b. every q k (λ g. p (b ∷ g))) t a (s 0)) f (suc_inj e) (λ i. s (suc i))

-- the test passes at some number below n
unfoldable pub any : ℕ → (ℕ → Bool) → Bool
any zero p = false
any (suc n) p = either (p n) (any n p)

any_found : (n : ℕ) (p : ℕ → Bool) → T (any n p) → (k : ℕ) × (k < n) × T (p k)
unfolding any either
any_found zero p t = absurd t
any_found (suc n) p t = go (p n) refl t (any_found n p)
  where
    go : (b : Bool) → p n ≡ b → T (either b (any n p)) → (T (any n p) → (k : ℕ) × (k < n) × T (p k)) → (k : ℕ) × (k < suc n) × T (p k)
    go true e u ih = (n, omega arith, subst T (sym e) tt)
    go false e u ih =
        let x = ih u in
        (x.0, omega (arith, x.1), x.2)

-- the test passes at some list of k symbols below q
unfoldable pub some : ℕ → ℕ → (List ℕ → Bool) → Bool
some q zero p = p []
some q (suc k) p = any q (λ a. some q k (λ f. p (a ∷ f)))

symbols_more : (q a : ℕ) (f : List ℕ) → a < q → ((i : ℕ) → get_or f i 0 < q) → (i : ℕ) → get_or (a ∷ f) i 0 < q
symbols_more q a f h s zero = h
symbols_more q a f h s (suc i) = s i

pub some_found : (q k : ℕ) (p : List ℕ → Bool) → 0 < q → T (some q k p) → (f : List ℕ) × (length f ≡ k) × ((i : ℕ) → get_or f i 0 < q) × T (p f)
unfolding some
some_found q zero p h t = ([], refl, (λ i. h), t)
some_found q (suc k) p h t =
    let x = any_found q (λ a. some q k (λ f. p (a ∷ f))) t in
    let y = some_found q k (λ f. p (x.0 ∷ f)) h x.2 in
    (x.0 ∷ y.0, ap suc y.1, symbols_more q x.0 y.0 x.1 y.2, y.3)

-- the symbols of a list are below q
unfoldable pub below : ℕ → List ℕ → Bool
below q [] = true
below q (a ∷ f) = both (ltb a q) (below q f)

pub below_at : (q : ℕ) (f : List ℕ) → 0 < q → T (below q f) → (i : ℕ) → get_or f i 0 < q
unfolding below
below_at q [] h t = λ i. h
below_at q (a ∷ f) h t =
    symbols_more q a f (ltb→lt a q (both_left (ltb a q) (below q f) t)) (below_at q f h (both_right (ltb a q) (below q f) t))

-- two lists are equal
unfoldable pub same : List ℕ → List ℕ → Bool
same [] [] = true
same [] (b ∷ g) = false
same (a ∷ f) [] = false
same (a ∷ f) (b ∷ g) = both (eqb a b) (same f g)

pub same_eq : (f g : List ℕ) → T (same f g) → f ≡ g
unfolding same
same_eq [] [] t = refl
same_eq [] (b ∷ g) t = absurd t
same_eq (a ∷ f) [] t = absurd t
same_eq (a ∷ f) (b ∷ g) t = cc (eqb→eq a b (both_left (eqb a b) (same f g) t), same_eq f g (both_right (eqb a b) (same f g) t))
