-- The turns at one column: its pivot is made 1 and brought to row c, and the rows after it are cleared.
use mathlib.Core.Path.{◌≡◌, sym, ap, ap₂, ◌∙◌}
use mathlib.Core.Logic.{⊎_elim}
use Prim.Native.Nat.{ℕ, ◌+◌, ◌^◌, ◌<◌}
use native.Mathlib.Nat.{le_refl}
use native.Mathlib.Omega.{arith}
use Rattle.defs.specs.Field.{add, mul}
use Rattle.theory.proofs.Order.{eq_or_not}
use Rattle.theory.proofs.Field.{0-add, add_self, mul_comm, one_mul_of_lt}
use Rattle.solve.specs.System.{Matrix}
use Rattle.solve.specs.Step.{IsPivot, Added, Stairs, Leads}
use Rattle.solve.proofs.Steps.{scaled, added_stairs}

-- a row that has 0 already
pub leads_skip : {rows c i : ℕ} {M : Matrix} → Leads rows c i M → M i c ≡ 0 → Leads rows c (i + 1) M
leads_skip {rows} {c} {i} {M} L e = record {
  stairs = L.stairs;
  one = L.one;
  none = λ k h g. ⊎_elim (λ w. rw w e) (λ w. L.none k h (omega arith)) (eq_or_not k i);
}

module _ (m rows cols c : ℕ) (fits : c < cols) where
  -- the pivot is M p c, with inverse a
  module _ (p a : ℕ) {M N : Matrix} (S : Stairs rows c M) (P : IsPivot rows c M p) (small : M p c < 2 ^ m) (inv : mul m (M p c) a ≡ 1)
      (A : Added m cols p p (add a 1) M N) where
    pub stairs_one : Stairs rows c N
    stairs_one = added_stairs m rows cols p p (add a 1) M N A c P.from P.from P.to (omega arith) S

    is_one : N p c ≡ 1
    is_one = A.row c fits ∙ scaled m a (M p c) small ∙ mul_comm m a (M p c) ∙ inv

    -- it stands in row c
    pub leads_here : p ≡ c → Leads rows c (c + 1) N
    leads_here e = record {
      stairs = stairs_one;
      one = ap (λ (i : ℕ). N i c) (sym e) ∙ is_one;
      none = λ k h g. absurd (omega arith);
    }

    -- it stands below, and its row is added to row c, which has 0 there
    pub leads_added : {K : Matrix} → 1 < 2 ^ m → (p ≡ c → ⊥) → Added m cols c p 1 N K → Leads rows c (c + 1) K
    leads_added {K} h n B = record {
      stairs = added_stairs m rows cols c p 1 N K B c (le_refl c) P.from P.to (omega arith) stairs_one;
      one =
          B.row c fits
          ∙ ap₂ add (A.others c c (λ e. n (sym e)) fits ∙ P.before c (le_refl c) (omega arith)) (ap (mul m 1) is_one ∙ one_mul_of_lt m 1 h) ∙ 0-add 1;
      none = λ k l g. absurd (omega arith);
    }

  pub leads_more : {i f : ℕ} {M N : Matrix} → c < i → i < rows → Leads rows c i M → f < 2 ^ m → f ≡ M i c → Added m cols i c f M N → Leads rows c (i + 1) N
  leads_more {i} {f} {M} {N} l li L small e A = record {
    stairs = added_stairs m rows cols i c f M N A c (omega arith) (le_refl c) (omega arith) (omega arith) L.stairs;
    one = A.others c c (λ w. omega arith) fits ∙ L.one;
    none = λ k h g.
        ⊎_elim
        (λ w. rw w (A.row c fits ∙ ap₂ add (sym e) (ap (mul m f) L.one ∙ mul_comm m f 1 ∙ one_mul_of_lt m f small) ∙ add_self f))
        (λ w. A.others k c w fits ∙ L.none k h (omega arith))
        (eq_or_not k i);
  }
