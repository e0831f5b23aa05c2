-- The vector at a free unknown, and the elimination's two answers.
use mathlib.Core.Path.{◌≡◌, refl, sym, ap, ap₂, subst, ◌∙◌}
use mathlib.Core.Logic.{⊎_elim}
use Prim.Native.Nat.{ℕ, zero, suc, ◌+◌, ◌^◌, ◌<◌, ◌≤◌}
use native.Mathlib.Nat.{le_refl}
use native.Mathlib.Omega.{arith}
use borrow.Author.Tests.{lt-ltb, le-ltb, eq-eqb, ne_eqb}
use lib.Pow.{pow_pos}
use Rattle.defs.specs.Field.{add, mul}
use Rattle.defs.specs.Row.{sum}
use Rattle.theory.proofs.Order.{eq_or_not, lt_or_le, eq_lt}
use Rattle.theory.proofs.Field.{add_0, add_self, mul_0, 0-mul, one_mul_of_lt}
use Rattle.theory.proofs.Sum.{sum_zero, sum_from_lem, sum_cut, tail_more, tail_zero}
use Rattle.solve.specs.System.{Matrix, Solves, free}
use Rattle.solve.specs.Step.{NoPivot, Alike, Stairs, Back}
use Rattle.solve.specs.Answer.{IsFree, IsFull}

pub free_below : (M : Matrix) (c j : ℕ) → j < c → free M c j ≡ M j c
unfolding free
free_below M c j h = rw (lt-ltb j c h)

pub free_here : (M : Matrix) (c : ℕ) → free M c c ≡ 1
unfolding free
free_here M c = rw (le-ltb c c (le_refl c), eq-eqb c c refl)

pub free_past : (M : Matrix) (c j : ℕ) → c < j → free M c j ≡ 0
unfolding free
free_past M c j h = rw (le-ltb j c (omega arith), ne_eqb j c (λ e. omega arith))

free_lt : (m : ℕ) → 1 < 2 ^ m → (N : Matrix) → ((i j : ℕ) → N i j < 2 ^ m) → (c j : ℕ) → free N c j < 2 ^ m
free_lt m one N small c j =
    ⊎_elim
    (λ e. eq_lt (ap (free N c) e ∙ free_here N c) one)
    (λ n.
    ⊎_elim (λ l. eq_lt (free_below N c j l) (small j c)) (λ l. eq_lt (free_past N c j (omega arith)) (pow_pos m)) (lt_or_le j c))
    (eq_or_not j c)

module _ (m rows cols c : ℕ) (M N : Matrix) (below : c < cols) (S : Stairs rows c M) (P : NoPivot rows c M) (B : Back m c M N)
    (small : (i j : ℕ) → N i j < 2 ^ m) where
  module _ (i : ℕ) (l : i < rows) where
    abbrev term : ℕ → ℕ
    term j = mul m (M i j) (free N c j)

    -- an entry of M that is 0
    no_term : (j : ℕ) → M i j ≡ 0 → term j ≡ 0
    no_term j e = ap (λ (a : ℕ). mul m a (free N c j)) e ∙ 0-mul m (free N c j)

    above : i < c → sum (suc c) term ≡ 0
    above h =
        sum_from_lem i (suc c) term (λ j k. no_term j (S.none i j l (omega arith) k)) ∙ tail_more i (suc c) term (omega arith)
        ∙ ap₂ add (ap₂ (mul m) (S.one i h) (free_below N c i h) ∙ one_mul_of_lt m (N i c) (small i c)) (sym (B.asked i h)) ∙ add_self (N i c)

    past : c ≤ i → sum (suc c) term ≡ 0
    past h =
        sum_zero (suc c) term
        (λ j k.
        no_term j
        (⊎_elim (λ e. rw e (P.none i h l)) (λ n. S.none i j l (omega arith) (omega arith)) (eq_or_not j c)))

    row_zero : sum cols term ≡ 0
    row_zero =
        sum_cut (suc c) cols term (λ j k b. ap (mul m (M i j)) (free_past N c j k) ∙ mul_0 m (M i j)) below
        ∙ ⊎_elim above past (lt_or_le i c)

  pub free_solves : Solves m M rows cols (free N c)
  free_solves i l = row_zero i l

-- the stairs reach over all columns: from the last unknown down each is 0
module _ (m rows cols : ℕ) (M : Matrix) (S : Stairs rows cols M) (fits : cols ≤ rows) (x : ℕ → ℕ) (hx : (j : ℕ) → x j < 2 ^ m) (s : Solves m M rows cols x) where
  last_zero : (n j : ℕ) → cols ≤ j + n → j < cols → x j ≡ 0
  last_zero zero j h l = absurd (omega arith)
  last_zero (suc n) j h l =
      sym
      (sum_from_lem j cols term (λ k g. ap (λ (a : ℕ). mul m a (x k)) (S.none j k (omega arith) (omega arith) g) ∙ 0-mul m (x k))
      ∙ tail_more j cols term l
      ∙ ap₂ add (ap (λ (a : ℕ). mul m a (x j)) (S.one j l) ∙ one_mul_of_lt m (x j) (hx j))
      (tail_zero (suc j) cols term (λ k g i. ap (mul m (M j k)) (last_zero n k (omega arith) i) ∙ mul_0 m (M j k)))
      ∙ add_0 (x j))
      ∙ s j (omega arith)
    where
      term : ℕ → ℕ
      term k = mul m (M j k) (x k)

  pub all_zero : (j : ℕ) → j < cols → x j ≡ 0
  all_zero j l = last_zero cols j (omega arith) l

module _ (m rows cols : ℕ) {M₀ M : Matrix} (A : Alike m rows cols M₀ M) where
  pub answer_free : {N : Matrix} (c : ℕ) → c < cols → Stairs rows c M → NoPivot rows c M → Back m c M N → 1 < 2 ^ m → ((i j : ℕ) → N i j < 2 ^ m)
      → IsFree m rows cols M₀ N c
  answer_free {N} c below S P B one small = record {
    below = below;
    symbols = free_lt m one N small c;
    one = free_here N c;
    solves = A.back (free N c) (free_solves m rows cols c M N below S P B small);
  }

  pub answer_full : (c : ℕ) → c ≡ cols → c ≤ rows → Stairs rows c M → IsFull m rows cols M₀
  answer_full c e l S x hx s =
      all_zero m rows cols M (subst (λ (n : ℕ). Stairs rows n M) e S) (omega arith) x hx (A.forth x s)
