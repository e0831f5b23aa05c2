-- The pair of the decoder: a row near that of a message f has one, and in every pair of such a row Q₀ is f·Q₁, and Q₁ is not 0.
use Prim.Native.Nat.{ℕ, suc, ◌+◌, ◌*◌, ◌-◌, ◌/◌, ◌<◌, ◌≤◌}
use mathlib.Core.Path.{◌≡◌, refl, ap, ap₂, sym, ◌∙◌}
use mathlib.Core.List.{List}
use native.Mathlib.Nat.{le_of_eq}
use native.Mathlib.Decide.{dec_lt}
use native.Mathlib.Omega.{arith}
use lib.ListN.{length, get_or, get_or-eq_default}
use Rattle.defs.specs.Field.{add, mul}
use Rattle.defs.specs.Place.{tab, total, Symbols}
use Rattle.defs.specs.Distance.{symbol, radius, Near}
use Rattle.defs.specs.Pair.{mixed, Zero, IsPair}
use Rattle.defs.specs.Limits.{Inside}
use Rattle.theory.specs.Limits.{Limits}
use Rattle.theory.specs.Poly.{h, pmul}
use Rattle.theory.specs.Vanish.{Deg, Same}
use Rattle.theory.specs.Chunks.{apart, row_at}
use Rattle.theory.specs.Key.{conv, Key, Solution}
use Rattle.theory.proofs.Place.{length_tab, get_d_tab, total_const}
use Rattle.theory.proofs.Limits.{inside_known}
use Rattle.theory.proofs.Sum.{sum_ext}
use Rattle.theory.proofs.Linear.{h_same}
use Rattle.theory.proofs.Formula.{coefficient_h}
use Rattle.theory.proofs.Multiply.{deg_length}
use Rattle.theory.proofs.Equation.{near_exists, near_decodes, trivial}
use Rattle.theory.proofs.Row.{row_distance}

-- f with as many coefficients as are asked for
fitted : ℕ → List ℕ → List ℕ
fitted n f = tab (λ i. get_or f i 0) n

length_fitted : (n : ℕ) (f : List ℕ) → length (fitted n f) ≡ n
unfolding fitted
length_fitted n f = length_tab _ n

fitted_same : (n : ℕ) (f : List ℕ) → Deg n f → Same (fitted n f) f
unfolding fitted
fitted_same n f d i = go (dec_lt i n)
  where
    go : Dec (i < n) → get_or (fitted n f) i 0 ≡ get_or f i 0
    go (yes l) = get_d_tab _ n i l
    go (no l) = get_or-eq_default (fitted n f) 0 (omega (arith, length_fitted n f)) ∙ sym (d i (omega arith))

same_symbols : (m : ℕ) (f g : List ℕ) → Same f g → Symbols m g → Symbols m f
same_symbols m f g e o i = rw (e i) (o i)

module _ (m r k : ℕ) (points w : List ℕ) (inside : Inside m r k points) where
  limits : Limits m r k points
  limits = inside_known m r k points inside

  abbrev P : ℕ → ℕ
  P i = get_or points i 0

  abbrev n : ℕ
  n = r * length points

  abbrev t : ℕ
  t = radius n k

  abbrev depth : ℕ → ℕ
  depth i = r

  abbrev Solved : List ℕ → List ℕ → Type 0
  Solved = Solution m P depth (length points) k t (symbol r w)

  depths_all : total (length points) depth ≡ n
  depths_all = total_const (length points) r

  unknowns : (n + k) / 2 ≡ k + t
  unfolding radius
  unknowns = omega (arith, limits.numbers.k_top)

  room : t + t + k ≤ total (length points) depth
  unfolding radius
  room = omega (arith, depths_all, limits.numbers.k_top)

  -- the coefficients of Q₀ + w_i Q₁ by the recursion
  mixed_h : (Q₀ Q₁ R₀ R₁ : List ℕ) → Symbols m Q₀ → Symbols m Q₁ → Same Q₀ R₀ → Same Q₁ R₁ → (i j : ℕ)
      → mixed m r points w Q₀ Q₁ i j ≡ add (h m (P i) j R₀) (conv m j (symbol r w i) (λ a. h m (P i) a R₁))
  unfolding mixed conv
  mixed_h Q₀ Q₁ R₀ R₁ o₀ o₁ e₀ e₁ i j =
      ap₂ add (coefficient_h m (P i) j Q₀ o₀ ∙ h_same m (P i) j Q₀ R₀ e₀)
      (sum_ext (suc j) _ _ (λ a l. ap (mul m (symbol r w i a)) (coefficient_h m (P i) (j - a) Q₁ o₁ ∙ h_same m (P i) (j - a) Q₁ R₁ e₁)))

  to_pair : (Q₀ Q₁ : List ℕ) → Solved Q₀ Q₁ → (Zero Q₁ → ⊥) → IsPair m r k points w (fitted ((n + k) / 2) Q₀) (fitted (suc t) Q₁)
  to_pair Q₀ Q₁ s ne =
      let e₀ = fitted_same ((n + k) / 2) Q₀ (λ i l. s.deg₀ i (omega (arith, unknowns))) in
      let e₁ = fitted_same (suc t) Q₁ s.deg₁ in
      let o₀ = same_symbols m (fitted ((n + k) / 2) Q₀) Q₀ e₀ s.symbols₀ in
      let o₁ = same_symbols m (fitted (suc t) Q₁) Q₁ e₁ s.symbols₁ in
      record {
        size₀ = length_fitted ((n + k) / 2) Q₀;
        size₁ = length_fitted (suc t) Q₁;
        symbols₀ = o₀;
        symbols₁ = o₁;
        nonzero = λ z₀ z₁. ne (λ i. sym (e₁ i) ∙ z₁ i);
        vanishes = λ i l j l'. mixed_h _ _ Q₀ Q₁ o₀ o₁ e₀ e₁ i j ∙ s.key i l j l';
      }

  module _ (Q₀ Q₁ : List ℕ) (p : IsPair m r k points w Q₀ Q₁) where
    solves : Key m P depth (length points) (symbol r w) Q₀ Q₁
    solves i l j l' = sym (mixed_h Q₀ Q₁ Q₀ Q₁ p.symbols₀ p.symbols₁ (λ i. refl) (λ i. refl) i j) ∙ p.vanishes i l j l'

    solution : Solved Q₀ Q₁
    solution =
        record {
          symbols₀ = p.symbols₀;
          symbols₁ = p.symbols₁;
          deg₀ = deg_length (k + t) Q₀ (omega (arith, p.size₀, unknowns));
          deg₁ = deg_length (suc t) Q₁ (le_of_eq p.size₁);
          key = solves;
        }

    pub pair_nonzero : Zero Q₁ → ⊥
    pair_nonzero z =
        p.nonzero
        (trivial m limits.numbers.width P depth (length points) (symbol r w) limits.symbols limits.distinct Q₀ Q₁ p.symbols₀
        (deg_length _ Q₀ (omega (arith, p.size₀, unknowns, room))) solves z)
        z

  module _ (f : List ℕ) (near : Near m r k points w f) where
    within : apart (length points) depth (row_at m P f) (symbol r w) ≤ t
    within = rw (← row_distance m r points f near.message.symbols w) near.within

    pub pair_exists : (Q₀ : List ℕ) × (Q₁ : List ℕ) × IsPair m r k points w Q₀ Q₁
    pair_exists =
        let (Q₀, Q₁, s, ne) = near_exists m limits.numbers.width P depth (length points) (symbol r w) f k t (deg_length k f (le_of_eq near.message.size)) within in
        (fitted ((n + k) / 2) Q₀, fitted (suc t) Q₁, to_pair Q₀ Q₁ s ne)

    pub pair_divides : (Q₀ Q₁ : List ℕ) → IsPair m r k points w Q₀ Q₁ → Same Q₀ (pmul m f Q₁)
    pair_divides Q₀ Q₁ p =
        near_decodes m limits.numbers.width P depth (length points) (symbol r w) limits.symbols limits.distinct Q₀ Q₁ k t f
        near.message.symbols (deg_length k f (le_of_eq near.message.size)) within room (solution Q₀ Q₁ p)
