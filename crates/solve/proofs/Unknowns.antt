-- Back substitution: the turns that put the unknowns into column c, from the last row up.
use mathlib.Core.Path.{◌≡◌, refl, sym, ap, ap₂, subst, ◌∙◌}
use mathlib.Core.Logic.{⊎_elim}
use Prim.Native.Nat.{ℕ, suc, ◌^◌, ◌<◌, ◌≤◌}
use native.Mathlib.Nat.{le_refl}
use native.Mathlib.Omega.{arith}
use Rattle.defs.specs.Field.{add, mul}
use Rattle.defs.specs.Row.{sum_from}
use Rattle.theory.proofs.Order.{eq_or_not, lt_or_le}
use Rattle.theory.proofs.Field.{add_0, add_comm, mul_comm, one_mul_of_lt}
use Rattle.theory.proofs.Sum.{tail_more, tail_same, tail_zero}
use Rattle.solve.specs.Table.{stride}
use Rattle.solve.specs.System.{Matrix, free}
use Rattle.solve.specs.Step.{Spread}
use Rattle.solve.proofs.Free.{free_below, free_here, free_past}

-- unknowns from k on are in column c of N; above row k that column has what they make of each row of M
pub record Backing (m c k : ℕ) (M N : Matrix) : Type 0 where
  pub asked : (i : ℕ) → k ≤ i → i < c → N i c ≡ sum_from (suc i) (suc c) (λ j. mul m (M i j) (free N c j))
  pub rest : (i : ℕ) → i < k → N i c ≡ sum_from k (suc c) (λ j. mul m (M i j) (free N c j))
  pub others : (i j : ℕ) → j < stride → (j ≡ c → ⊥) → N i j ≡ M i j

-- the unknowns from k on are not touched
free_same : (c k : ℕ) (N K : Matrix) → ((i : ℕ) → k ≤ i → K i c ≡ N i c) → (j : ℕ) → k ≤ j → free N c j ≡ free K c j
free_same c k N K h j l =
    ⊎_elim
    (λ e. rw e (free_here N c ∙ sym (free_here K c)))
    (λ n.
    ⊎_elim
    (λ i. free_below N c j i ∙ sym (h j l) ∙ sym (free_below K c j i))
    (λ i. free_past N c j (omega arith) ∙ sym (free_past K c j (omega arith)))
    (lt_or_le j c))
    (eq_or_not j c)

module _ (m c : ℕ) {M : Matrix} where
  pub backing_first : ((i j : ℕ) → M i j < 2 ^ m) → Backing m c c M M
  backing_first small = record {
    asked = λ i h l. absurd (omega arith);
    rest = λ i l.
        sym
        (tail_more c (suc c) (λ j. mul m (M i j) (free M c j)) (le_refl (suc c))
        ∙ ap₂ add (ap (mul m (M i c)) (free_here M c) ∙ mul_comm m (M i c) 1 ∙ one_mul_of_lt m (M i c) (small i c))
        (tail_zero (suc c) (suc c) (λ j. mul m (M i j) (free M c j)) (λ j a b. absurd (omega arith)))
        ∙ add_0 (M i c));
    others = λ i j h n. refl;
  }

  pub backing_more : {n k : ℕ} {N K : Matrix} → n ≡ suc k → k < c → c < stride → Backing m c n M N → Spread m c k N K → Backing m c k M K
  backing_more {n} {k} {N} {K} e l fits A S = record {
    asked = λ i h li.
        S.below i h
        ∙ ⊎_elim
        (λ w. rw w (B.rest k (le_refl (suc k)) ∙ same k k l (le_refl k)))
        (λ n. B.asked i (omega arith) li ∙ same i i li h)
        (eq_or_not i k);
    rest = λ i li.
        S.above i li
        ∙ ap₂ add
        (B.rest i (omega arith) ∙ same i k l (le_refl k))
        (ap₂ (mul m) (B.others i k (omega arith) (λ w. omega arith)) (sym (S.below k (le_refl k)) ∙ sym (free_below K c k l)))
        ∙ add_comm _ _
        ∙ sym (tail_more k (suc c) (λ j. mul m (M i j) (free K c j)) (omega arith));
    others = λ i j h n. S.others i j h n ∙ B.others i j h n;
  }
    where
      B : Backing m c (suc k) M N
      B = subst (λ (i : ℕ). Backing m c i M N) e A

      same : (i p : ℕ) → p < c → k ≤ p → sum_from (suc p) (suc c) (λ j. mul m (M i j) (free N c j)) ≡ sum_from (suc p) (suc c) (λ j. mul m (M i j) (free K c j))
      same i p lp h =
          tail_same (suc p) (suc c) (λ j. mul m (M i j) (free N c j)) (λ j. mul m (M i j) (free K c j))
          (λ j g. ap (mul m (M i j)) (free_same c k N K S.below j (omega arith)))
