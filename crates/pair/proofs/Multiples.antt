-- Multiples of what the depths ask of one polynomial, added to what they ask of the other, one depth after another.
use Prim.Native.Nat.{ℕ, ◌+◌, ◌*◌, ◌-◌, ◌<◌, ◌≤◌}
use mathlib.Core.Path.{◌≡◌, refl, ap, ap₂, sym, subst, ◌∙◌}
use mathlib.Core.Logic.{⊎_elim}
use mathlib.Core.List.{List}
use native.Mathlib.Omega.{arith}
use lib.ListN.{get_or}
use Rattle.defs.specs.Field.{add, mul}
use Rattle.defs.specs.Place.{Symbols}
use Rattle.theory.proofs.Order.{eq_or_not, eq_lt}
use Rattle.theory.proofs.Field.{add_lt}
use Rattle.field.specs.Arithmetic.{Products}
use Rattle.solve.specs.Table.{stride, at}
use Rattle.theory.specs.Fill.{Span}
use Rattle.theory.proofs.Spans.{span_symbols}
use Rattle.pair.specs.Fill.{look, Added}

module _ {m x b s₀ s₁ : ℕ} {t₀ : List ℕ} where
  pub added_none : Symbols m t₀ → Added m x b b s₀ s₁ t₀ t₀
  added_none o = record { size = refl; symbols = o; inside = λ j a l h. absurd (omega arith); outside = λ k o. refl }

  pub added_more : {row t t' : List ℕ} (to from : List ℕ) (d : ℕ) → b ≤ d → s₁ ≤ s₀ → s₀ + s₁ ≤ stride → Products m x row → Added m x b d s₀ s₁ t₀ t
      → ((a : ℕ) → a < s₁ → get_or to a 0 ≡ get_or t (d * stride + s₀ + a) 0) → ((a : ℕ) → a < s₁ → get_or from a 0 ≡ at t (d - b) a)
      → Span t (d * stride + s₀) s₁ (λ a. add (get_or to a 0) (look row (get_or from a 0))) t' → Added m x b (d + 1) s₀ s₁ t₀ t'
  added_more {row} {t} {t'} to from d low small fits R W is_to is_from S = record {
    size = S.size ∙ W.size;
    symbols = span_symbols m S W.symbols (λ a l. add_lt m _ _ (eq_lt (is_to a l) (W.symbols _)) (R.small _));
    inside = λ j a g l h.
        ⊎_elim
        (λ e. rw e (ap (λ (k : ℕ). get_or t' k 0) (here a) ∙ S.inside a h ∙ ap₂ add (target a h) (source a h)))
        (λ e. S.outside (j * stride + (s₀ + a)) (λ i l' e'. omega arith) ∙ W.inside j a g (omega arith) h)
        (eq_or_not j d);
    outside = λ k o. S.outside k (λ a l e. o d a low (omega arith) l (omega arith)) ∙ W.outside k (λ j a g l. o j a g (omega arith));
  }
    where
      here : (a : ℕ) → d * stride + (s₀ + a) ≡ d * stride + s₀ + a
      here a = omega arith

      target : (a : ℕ) → a < s₁ → get_or to a 0 ≡ at t₀ d (s₀ + a)
      target a h = is_to a h ∙ ap (λ (k : ℕ). get_or t k 0) (sym (here a)) ∙ W.outside (d * stride + (s₀ + a)) (λ j i g l l' e. omega arith)

      source : (a : ℕ) → a < s₁ → look row (get_or from a 0) ≡ mul m x (at t₀ (d - b) a)
      source a h =
          ap (look row) (is_from a h) ∙ R.at _ (W.symbols _)
          ∙ ap (mul m x) (W.outside ((d - b) * stride + a) (λ j i g l l' e. omega arith))

  pub added_all : {t : List ℕ} {d e : ℕ} → d ≡ e → Added m x b d s₀ s₁ t₀ t → Added m x b e s₀ s₁ t₀ t
  added_all {t} h W = subst (λ (i : ℕ). Added m x b i s₀ s₁ t₀ t) h W
