-- Row operations keep the solutions, and keep the stairs to the left of the column at which they work.
use mathlib.Core.Path.{◌≡◌, sym, ap, ap₂, ◌∙◌}
use mathlib.Core.Logic.{⊎_elim}
use Prim.Native.Nat.{ℕ, ◌^◌, ◌<◌, ◌≤◌}
use native.Mathlib.Omega.{arith}
use Rattle.defs.specs.Field.{add, mul}
use Rattle.theory.proofs.Order.{eq_or_not}
use Rattle.theory.proofs.Field.{add_0, mul_lt, mul_0, mul_add_l, mul_assoc, one_mul_of_lt, sums}
use Rattle.theory.proofs.Sum.{sum_ext, sum_add, sum_scale, sum_lt}
use Rattle.solve.specs.System.{Matrix, dot}
use Rattle.solve.specs.Step.{Added, Alike, Stairs}

-- a d and a + 1 times d are together a times d, so that adding a row to itself scales it
pub scaled : (m a d : ℕ) → d < 2 ^ m → add d (mul m (add a 1) d) ≡ mul m a d
scaled m a d h = ap (add d) (mul_add_l m a 1 d ∙ ap (add (mul m a d)) (one_mul_of_lt m d h)) ∙ cancels (mul m a d)
  where
    cancels : (b : ℕ) → add d (add b d) ≡ b
    cancels b = simp sums

module _ (m rows cols : ℕ) where
  pub alike_trans : {M N K : Matrix} → Alike m rows cols M N → Alike m rows cols N K → Alike m rows cols M K
  alike_trans A B = record { forth = λ x s. B.forth x (A.forth x s); back = λ x s. A.back x (B.back x s) }

  dot_lt : (M : Matrix) (i : ℕ) (x : ℕ → ℕ) → dot m M cols i x < 2 ^ m
  dot_lt M i x = sum_lt m cols (λ j. mul m (M i j) (x j)) (λ j. mul_lt m (M i j) (x j))

  module _ (r p f : ℕ) (M N : Matrix) (A : Added m cols r p f M N) where
    other_row : (i : ℕ) (x : ℕ → ℕ) → (i ≡ r → ⊥) → dot m N cols i x ≡ dot m M cols i x
    other_row i x n =
        sum_ext cols (λ j. mul m (N i j) (x j)) (λ j. mul m (M i j) (x j)) (λ j l. ap (λ (a : ℕ). mul m a (x j)) (A.others i j n l))

    this_row : (x : ℕ → ℕ) → dot m N cols r x ≡ add (dot m M cols r x) (mul m f (dot m M cols p x))
    this_row x =
        sum_ext cols (λ j. mul m (N r j) (x j)) (λ j. add (mul m (M r j) (x j)) (mul m f (mul m (M p j) (x j))))
        (λ j l. ap (λ (a : ℕ). mul m a (x j)) (A.row j l) ∙ mul_add_l m (M r j) (mul m f (M p j)) (x j)
        ∙ ap (add (mul m (M r j) (x j))) (mul_assoc m f (M p j) (x j)))
        ∙ sum_add cols (λ j. mul m (M r j) (x j)) (λ j. mul m f (mul m (M p j) (x j)))
        ∙ ap (add (dot m M cols r x)) (sum_scale m cols f (λ j. mul m (M p j) (x j)))

    pub added_alike : (r ≡ p → ⊥) → p < rows → Alike m rows cols M N
    added_alike n hp = record {
      forth = λ x s i l.
          ⊎_elim
          (λ e. rw e (this_row x ∙ ap (add (dot m M cols r x)) (none x (s p hp)) ∙ add_0 _ ∙ s r (rw e at l)))
          (λ o. other_row i x o ∙ s i l)
          (eq_or_not i r);
      back = λ x s i l.
          let pivot : dot m M cols p x ≡ 0 = sym (other_row p x (λ e. n (sym e))) ∙ s p hp in
          ⊎_elim
          (λ e. rw e (sym (this_row x ∙ ap (add (dot m M cols r x)) (none x pivot) ∙ add_0 _) ∙ s r (rw e at l)))
          (λ o. sym (other_row i x o) ∙ s i l)
          (eq_or_not i r);
    }
      where
        none : (x : ℕ → ℕ) → dot m M cols p x ≡ 0 → mul m f (dot m M cols p x) ≡ 0
        none x e = ap (mul m f) e ∙ mul_0 m f

    -- rows from c on, added to one another
    pub added_stairs : (c : ℕ) → c ≤ r → c ≤ p → p < rows → c ≤ cols → Stairs rows c M → Stairs rows c N
    added_stairs c hr hp l hc S = record {
      one = λ k h. A.others k k (λ e. omega arith) (omega arith) ∙ S.one k h;
      none = λ i k li h lk.
          ⊎_elim
          (λ e.
          rw e
          (A.row k (omega arith) ∙ ap₂ add (S.none r k (rw e at li) h (omega arith)) (ap (mul m f) (S.none p k l h (omega arith)) ∙ mul_0 m f)
          ∙ add_0 0))
          (λ o. A.others i k o (omega arith) ∙ S.none i k li h lk)
          (eq_or_not i r);
    }

  -- a row times a, which has an inverse v
  pub scaled_alike : (r a v : ℕ) (M N : Matrix) → Added m cols r r (add a 1) M N → mul m v a ≡ 1 → Alike m rows cols M N
  scaled_alike r a v M N A e = record {
    forth = λ x s i l.
        ⊎_elim
        (λ w. rw w (row_is x ∙ ap (mul m a) (s r (rw w at l)) ∙ mul_0 m a))
        (λ o. other_row r r (add a 1) M N A i x o ∙ s i l)
        (eq_or_not i r);
    back = λ x s i l.
        ⊎_elim
        (λ w. rw w (undone x ∙ ap (mul m v) (s r (rw w at l)) ∙ mul_0 m v))
        (λ o. sym (other_row r r (add a 1) M N A i x o) ∙ s i l)
        (eq_or_not i r);
  }
    where
      row_is : (x : ℕ → ℕ) → dot m N cols r x ≡ mul m a (dot m M cols r x)
      row_is x = this_row r r (add a 1) M N A x ∙ scaled m a (dot m M cols r x) (dot_lt M r x)

      undone : (x : ℕ → ℕ) → dot m M cols r x ≡ mul m v (dot m N cols r x)
      undone x =
          sym (ap (mul m v) (row_is x) ∙ sym (mul_assoc m v a (dot m M cols r x)) ∙ ap (λ (b : ℕ). mul m b (dot m M cols r x)) e
          ∙ one_mul_of_lt m (dot m M cols r x) (dot_lt M r x))
