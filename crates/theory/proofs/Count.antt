-- Root counting: a polynomial whose degree is below the total depth of its zeros at distinct points is 0.
use Prim.Native.Nat.{ℕ, zero, suc, ◌+◌, ◌^◌, ◌<◌, zero-le}
use mathlib.Core.Path.{◌≡◌, ◌∙◌}
use mathlib.Core.List.{List}
use native.Mathlib.Omega.{arith}
use Rattle.defs.specs.Field.{Width, add, mul}
use Rattle.defs.specs.Place.{total, Symbols}
use Rattle.defs.specs.Pair.{Zero}
use Rattle.theory.specs.Limits.{Distinct}
use Rattle.theory.specs.Poly.{h, quot}
use Rattle.theory.specs.Vanish.{Deg, Root, Roots}
use Rattle.theory.proofs.Field.{sums, add_comm, add_lt}
use Rattle.theory.proofs.Generator.{no_zero_divisors}
use Rattle.theory.proofs.Linear.{add_eq, h_lt}
use Rattle.theory.proofs.Divide.{h_quot, h_divide_zero, h_divide_suc, quot_symbols, quot_deg, quot_zero}

left_zero : (a b c : ℕ) → a ≡ add b c → a ≡ 0 → b ≡ 0 → c ≡ 0
left_zero a b c e z z' =
    let e' : add b c ≡ c = rw z' (simp sums) in
    cc

module _ (m : ℕ) (width : Width m) where
  -- dividing by x - P keeps the depth of a zero at another point P'
  module _ (P P' : ℕ) (p : P < 2 ^ m) (p' : P' < 2 ^ m) (ne : P' ≡ P → ⊥) (f : List ℕ) (o : Symbols m f) where
    cancelled : (j : ℕ) → mul m (add P' P) (h m P' j (quot m P f)) ≡ 0 → h m P' j (quot m P f) ≡ 0
    cancelled j = no_zero_divisors m width _ _ (add_lt m _ _ p' p) (h_lt m P' j _ (quot_symbols m P f o)) (λ e. ne (add_eq P' P e))

    quot_root : (s : ℕ) → h m P 0 f ≡ 0 → Root m f P' s → Root m (quot m P f) P' s
    quot_root s r v zero l = cancelled 0 (left_zero _ _ _ (h_divide_zero m P P' f) (v 0 l) r)
    quot_root s r v (suc j) l =
        cancelled (suc j) (left_zero _ _ _ (h_divide_suc m P P' j f ∙ add_comm _ _) (v (suc j) l) (quot_root s r v j (omega arith)))

  module _ (P s : ℕ → ℕ) where
    -- divide k times by x - P n; the points before n are left to `rest`
    peel : (n : ℕ) → ((i : ℕ) → P i < 2 ^ m) → Distinct (suc n) P
        → ((f : List ℕ) → Symbols m f → Roots m f n P s → Deg (total n s) f → Zero f)
        → (k : ℕ) (f : List ℕ) → Symbols m f → Roots m f n P s → Root m f (P n) k → Deg (total n s + k) f → Zero f
    peel n p ne rest zero f o v w d = rest f o v (λ i l. d i (omega arith))
    peel n p ne rest (suc k) f o v w d =
        quot_zero m (P n) f (w 0 (omega arith))
        (peel n p ne rest k (quot m (P n) f) (quot_symbols m (P n) f o)
        (λ i l. quot_root (P n) (P i) (p n) (p i) (ne i n l (omega arith)) f o (s i) (w 0 (omega arith)) (v i l))
        (λ j l. h_quot m (P n) j f ∙ w (suc j) (omega arith))
        (quot_deg m (P n) (total n s + k) f (λ i l. d i (omega arith))))

    pub root_count : (n : ℕ) → ((i : ℕ) → P i < 2 ^ m) → Distinct n P
        → (f : List ℕ) → Symbols m f → Roots m f n P s → Deg (total n s) f → Zero f
    unfolding total
    root_count zero p ne f o v d = λ i. d i zero-le
    root_count (suc n) p ne f o v d =
        peel n p ne (root_count n p (λ i k l l'. ne i k l (omega arith))) (s n) f o
        (λ i l. v i (omega arith)) (v n (omega arith)) d
