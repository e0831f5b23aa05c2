-- Loops that write one entry of a list a turn, and those that add f times an entry of the table to another one.
use mathlib.Core.Path.{◌≡◌, sym, ap, ap₂, ◌∙◌}
use mathlib.Core.List.{List}
use mathlib.Core.Logic.{⊎_elim}
use Prim.Native.Nat.{ℕ, ◌+◌, ◌*◌, ◌^◌, ◌<◌, ◌≤◌}
use native.Mathlib.Omega.{arith}
use lib.ListN.{length, get_or, set}
use lib.Seq.{get_or-set_same, get_or-set_other}
use Rattle.theory.proofs.Order.{eq_or_not, lt_or_le, eq_lt}
use Rattle.defs.specs.Field.{add, mul}
use Rattle.defs.specs.Place.{Symbols}
use Rattle.field.specs.Arithmetic.{Products}
use Rattle.theory.proofs.Field.{add_0, add_lt, mul_0, mul_comm}
use Rattle.solve.specs.Table.{stride, at}
use Rattle.solve.specs.Step.{Added, Spread}

-- a symbol is written
pub symbols_set : (m : ℕ) (t : List ℕ) {u : ℕ} (k : ℕ) → Symbols m t → k < length t → u < 2 ^ m → Symbols m (set t k u)
symbols_set m t {u} k S l small i =
    ⊎_elim
    (λ w. eq_lt (ap (λ (j : ℕ). get_or (set t k u) j 0) w ∙ get_or-set_same t k u 0 l) small)
    (λ w. eq_lt (get_or-set_other t k i u 0 w) (S i))
    (eq_or_not i k)

-- a symbol is added to an entry
pub symbols_added : (m : ℕ) (t : List ℕ) {b : ℕ} (k : ℕ) → Symbols m t → k < length t → b < 2 ^ m → Symbols m (set t k (add (get_or t k 0) b))
symbols_added m t k S l small = symbols_set m t k S l (add_lt m _ _ (S k) small)

-- t is the list t₀ with v j in place p j, for a ≤ j < n
pub record Wrote (p v : ℕ → ℕ) (t₀ : List ℕ) (a n : ℕ) (t : List ℕ) : Type 0 where
  pub inside : (j : ℕ) → a ≤ j → j < n → get_or t (p j) 0 ≡ v j
  pub outside : (k : ℕ) → ((j : ℕ) → a ≤ j → j < n → k ≡ p j → ⊥) → get_or t k 0 ≡ get_or t₀ k 0

module _ (p v : ℕ → ℕ) {t₀ : List ℕ} {a : ℕ} where
  pub wrote_more : {n u : ℕ} {t : List ℕ} → Wrote p v t₀ a n t → a ≤ n → p n < length t → ((j : ℕ) → j < n → p n ≡ p j → ⊥) → u ≡ v n
      → Wrote p v t₀ a (n + 1) (set t (p n) u)
  wrote_more {n} {u} {t} W from l new is = record {
    inside = λ j h i.
        ⊎_elim
        (λ w. rw w (get_or-set_same t (p n) u 0 l ∙ is))
        (λ w. get_or-set_other t (p n) (p j) u 0 (λ e. new j (omega arith) (sym e)) ∙ W.inside j h (omega arith))
        (eq_or_not j n);
    outside = λ k o. get_or-set_other t (p n) k u 0 (o n from (omega arith)) ∙ W.outside k (λ j h i. o j h (omega arith));
  }

-- f times the entry at s j of t₀ is added to the entry at p j
abbrev pub Adds : ℕ → ℕ → (ℕ → ℕ) → (ℕ → ℕ) → List ℕ → ℕ → ℕ → List ℕ → Type 0
Adds m f p s t₀ a n t = Wrote p (λ j. add (get_or t₀ (p j) 0) (mul m f (get_or t₀ (s j) 0))) t₀ a n t

module _ (m f : ℕ) (p s : ℕ → ℕ) {t₀ : List ℕ} {a : ℕ} where
  pub adds_more : {n b : ℕ} {t : List ℕ} → Adds m f p s t₀ a n t → a ≤ n → p n < length t → ((j : ℕ) → j < n → p n ≡ p j → ⊥)
      → b ≡ mul m f (get_or t₀ (s n) 0) → Adds m f p s t₀ a (n + 1) (set t (p n) (add (get_or t (p n) 0) b))
  adds_more {n} {b} {t} W from l new e =
      wrote_more p (λ j. add (get_or t₀ (p j) 0) (mul m f (get_or t₀ (s j) 0))) W from l new
      (ap₂ add (W.outside (p n) (λ j h i. new j i)) e)

  pub looked_up : {n : ℕ} {t row : List ℕ} → Products m f row → Symbols m t → Adds m f p s t₀ a n t → ((j : ℕ) → j < n → s n ≡ p j → ⊥)
      → get_or row (get_or t (s n) 0) 0 ≡ mul m f (get_or t₀ (s n) 0)
  looked_up {n} R S W source =
      R.at _ (S (s n)) ∙ ap (mul m f) (W.outside (s n) (λ j h i. source j i))

-- along a row
pub wrote_added : {m f c n cols : ℕ} (r p : ℕ) {t₀ t : List ℕ} → Adds m f (λ j. r * stride + j) (λ j. p * stride + j) t₀ c n t → n ≡ cols → cols ≤ stride
    → ((j : ℕ) → j < c → at t₀ p j ≡ 0) → Added m cols r p f (at t₀) (at t)
wrote_added {m} {f} {c} {n} {cols} r p {t₀} {t} W all fits none = record {
  row = λ j l.
      ⊎_elim
      (λ w.
      W.outside (r * stride + j) (λ i a b e. omega arith)
      ∙ sym (ap (add (at t₀ r j)) (ap (mul m f) (none j w) ∙ mul_0 m f) ∙ add_0 (at t₀ r j)))
      (λ w. W.inside j w (omega arith))
      (lt_or_le j c);
  others = λ i j o l. W.outside (i * stride + j) (λ k a b e. o (omega arith));
}

-- along a column
pub wrote_spread : {m c k n : ℕ} {t₀ t : List ℕ} → Adds m (at t₀ k c) (λ i. i * stride + c) (λ i. i * stride + k) t₀ 0 n t → n ≡ k → c < stride
    → Spread m c k (at t₀) (at t)
wrote_spread {m} {c} {k} {n} {t₀} {t} W all fits = record {
  above = λ i l. W.inside i (omega arith) (omega arith) ∙ ap (add (at t₀ i c)) (mul_comm m (at t₀ k c) (at t₀ i k));
  below = λ i l. W.outside (i * stride + c) (λ j a b e. omega arith);
  others = λ i j l o. W.outside (i * stride + j) (λ b x y e. o (omega arith));
}
