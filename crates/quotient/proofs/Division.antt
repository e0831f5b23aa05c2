-- Turns of the loops of long division.
use Prim.Native.Nat.{ℕ, suc, ◌+◌, ◌-◌, ◌^◌, ◌<◌, ◌≤◌}
use mathlib.Core.Path.{◌≡◌, ap, ap₂, sym, subst, ◌∙◌}
use mathlib.Core.List.{List, ◌++◌}
use native.Mathlib.Decide.{dec_lt, ℕ_discrete}
use native.Mathlib.Omega.{arith}
use lib.ListN.{length, get_or, drop, set, replicate, length-set, length-append, length-drop, length-replicate, get_or-append, get_or-eq_default}
use lib.Seq.{get_or-set_same, get_or-set_other, set_out, get_or-append-add, get_or-drop}
use Rattle.defs.specs.Field.{add, mul}
use Rattle.defs.specs.Place.{Symbols}
use Rattle.defs.specs.Row.{Message}
use Rattle.defs.specs.Pair.{Zero}
use Rattle.defs.specs.Limits.{longest}
use Rattle.defs.specs.Write.{front}
use Rattle.theory.specs.Poly.{pmul}
use Rattle.theory.specs.Vanish.{Deg, Same}
use Rattle.theory.specs.Quotient.{Remains}
use Rattle.theory.specs.Fill.{Span}
use Rattle.theory.proofs.Order.{eq_lt}
use Rattle.theory.proofs.Spans.{span_symbols}
use Rattle.theory.proofs.Field.{add_lt, add_0, mul_0}
use Rattle.theory.proofs.Place.{zeros_zero}
use Rattle.theory.proofs.Quotient.{remains_first, remains_found, remains_turn}
use Rattle.field.specs.Arithmetic.{Element, Products}
use Rattle.quotient.specs.Quotient.{Leading, Divided, Dividing, Quotient}

set_symbols : (m : ℕ) (s : List ℕ) (i a : ℕ) → a < 2 ^ m → Symbols m s → Symbols m (set s i a)
set_symbols m s i a l h j = go (ℕ_discrete j i) (dec_lt i (length s))
  where
    go : Dec (j ≡ i) → Dec (i < length s) → get_or (set s i a) j 0 < 2 ^ m
    go (yes e) (yes b) = rw (e, get_or-set_same s i a 0 b) l
    go (yes e) (no b) = rw (set_out s i a (omega arith)) (h j)
    go (no e) b = rw (get_or-set_other s i j a 0 e) (h j)

-- one coefficient of the quotient; to are rem's coefficients that q lies over
pub divided : (m : ℕ) (q : List ℕ) (inverse at : ℕ) (rem : List ℕ) (a : ℕ) (products to rem' : List ℕ) → Symbols m q → Symbols m rem
    → Element m (mul m (get_or rem (at + (length q - 1)) 0) inverse) a → Products m a products
    → ((i : ℕ) → i < length q → get_or to i 0 ≡ get_or rem (at + i) 0)
    → Span rem at (length q) (λ i. add (get_or to i 0) (get_or products (get_or q i 0) 0)) rem' → Divided m q inverse at rem a rem'
divided m q inverse at rem a products to rem' q_in rem_in e p is_to S =
    record {
      is = e.is;
      small = e.small;
      symbols = span_symbols m S rem_in (λ i l. add_lt m _ _ (eq_lt (is_to i l) (rem_in _)) (p.small _));
      size = S.size;
      before = λ x l. S.outside x (λ i l' e'. omega arith);
      off = λ i. off i (dec_lt i (length q));
    }
  where
    off : (i : ℕ) → Dec (i < length q) → get_or rem' (at + i) 0 ≡ add (get_or rem (at + i) 0) (mul m a (get_or q i 0))
    off i (yes l) = S.inside i l ∙ ap₂ add (is_to i l) (p.at (get_or q i 0) (q_in i))
    off i (no l) =
        let none : get_or q i 0 ≡ 0 = get_or-eq_default q 0 (omega arith) in
        rw (none, mul_0, add_0) (S.outside (at + i) (λ j l' e'. omega arith))

-- a list with zeros behind it has its coefficients
front_zeros : (q : List ℕ) (n : ℕ) → Same (front q (replicate n 0)) q
unfolding front
front_zeros q n i = go (dec_lt i (length q))
  where
    go : Dec (i < length q) → get_or (q ++ drop (length q) (replicate n 0)) i 0 ≡ get_or q i 0
    go (yes l) = get_or-append q _ 0 i l
    go (no l) =
        let e : i ≡ length q + (i - length q) = omega arith in
        ap (λ (x : ℕ). get_or (q ++ drop (length q) (replicate n 0)) x 0) e
        ∙ get_or-append-add q (drop (length q) (replicate n 0)) (i - length q) 0
        ∙ get_or-drop (length q) (replicate n 0) (i - length q) 0
        ∙ zeros_zero n _ ∙ sym (get_or-eq_default q 0 (omega arith))

length_front_zeros : (q : List ℕ) (n : ℕ) → length q ≤ n → length (front q (replicate n 0)) ≡ n
unfolding front
length_front_zeros q n l =
    length-append q (drop (length q) (replicate n 0)) ∙ omega (arith, length-drop (length q) (replicate {A = ℕ} n 0), length-replicate {A = ℕ} n 0)

-- the loop of the quotient: f has the message's coefficients from at on, and rem is what is left
pub record Going (m k : ℕ) (q₀ q₁ f rem : List ℕ) (at : ℕ) : Type 0 where
  pub long : length f ≡ longest
  pub symbols : Symbols m f
  pub long_rem : length rem ≡ longest
  pub symbols_rem : Symbols m rem
  pub within : at ≤ k
  pub found : (g : List ℕ) → Message m k g → Same q₀ (pmul m g q₁)
      → Remains m g q₁ at (λ x. get_or rem x 0) × ((i : ℕ) → at ≤ i → i < k → get_or f i 0 ≡ get_or g i 0)

module _ (m k : ℕ) (q₀ q₁ : List ℕ) (d : Dividing m k q₀ q₁) where
  -- rem has q₀, and 0 behind it
  pub going_first : (f rem : List ℕ) → length f ≡ longest → Symbols m f → rem ≡ front q₀ (replicate longest 0) → Going m k q₀ q₁ f rem k
  going_first f rem e s h =
      let same : Same rem q₀ = rw h (front_zeros q₀ longest) in
      record {
        long = e;
        symbols = s;
        long_rem = ap length h ∙ length_front_zeros q₀ longest d.long;
        symbols_rem = λ i. rw (same i) (d.symbols₀ i);
        within = omega arith;
        found = λ g g_is eq. (remains_first m q₁ g rem k g_is.size (λ i. same i ∙ eq i), λ i l l'. absurd (omega arith));
      }

  module _ (q : List ℕ) (lead : Leading q₁ q) (some : 0 < length q) (v : ℕ) (unit : mul m (get_or q (length q - 1) 0) v ≡ 1) where
    going_more : (f rem : List ℕ) (i a : ℕ) (rem' : List ℕ) → Going m k q₀ q₁ f rem (suc i)
        → Divided m q v i rem a rem' → Going m k q₀ q₁ (set f i a) rem' i
    going_more f rem i a rem' x y =
        record {
          long = length-set f i a ∙ x.long;
          symbols = set_symbols m f i a y.small x.symbols;
          long_rem = y.size ∙ x.long_rem;
          symbols_rem = y.symbols;
          within = omega (arith, x.within);
          found = λ g g_is same. turn g g_is (x.found g g_is same);
        }
      where
        low : i < length f
        low = omega (arith, x.long, x.within, some, lead.within, d.room, d.long)

        last : (g : List ℕ) → a ≡ get_or g i 0 → ((j : ℕ) → suc i ≤ j → j < k → get_or f j 0 ≡ get_or g j 0)
            → (j : ℕ) → i ≤ j → j < k → Dec (j ≡ i) → get_or (set f i a) j 0 ≡ get_or g j 0
        last g is done j l l' (yes e) = rw (e, get_or-set_same f i a 0 low) is
        last g is done j l l' (no e) = get_or-set_other f i j a 0 e ∙ done j (omega arith) l'

        turn : (g : List ℕ) → Message m k g → Remains m g q₁ (suc i) (λ x. get_or rem x 0) × ((j : ℕ) → suc i ≤ j → j < k → get_or f j 0 ≡ get_or g j 0)
            → Remains m g q₁ i (λ x. get_or rem' x 0) × ((j : ℕ) → i ≤ j → j < k → get_or (set f i a) j 0 ≡ get_or g j 0)
        turn g g_is (remains, done) =
            let deg : Deg (suc (length q - 1)) q₁ = λ j l. sym (lead.same j) ∙ get_or-eq_default q 0 (omega arith) in
            let top : mul m (get_or q₁ (length q - 1) 0) v ≡ 1 = rw (lead.same (length q - 1)) at unit in
            let is : a ≡ get_or g i 0 = y.is ∙ remains_found m q₁ g (length q - 1) i v (λ x. get_or rem x 0) deg remains (g_is.symbols i) top in (
              remains_turn m q₁ g i (λ x. get_or rem x 0) (λ x. get_or rem' x 0) remains y.before (λ j. rw (← is, ← lead.same j) (y.off j)),
              λ j l l'. last g is done j l l' (ℕ_discrete j i),
            )

    pub going_turn : (f rem : List ℕ) (at a : ℕ) (rem' : List ℕ) → 0 < at → Going m k q₀ q₁ f rem at
        → Divided m q v (at - 1) rem a rem' → Going m k q₀ q₁ (set f (at - 1) a) rem' (at - 1)
    going_turn f rem at a rem' l x y =
        let e : at ≡ suc (at - 1) = omega arith in
        going_more f rem (at - 1) a rem' (subst (Going m k q₀ q₁ f rem) e x) y

  -- where q₁ is 0
  pub no_divisor : (f : List ℕ) → Zero q₁ → length f ≡ longest → Symbols m f → Quotient m k q₀ q₁ f
  no_divisor f e long s = record { long = long; symbols = s; exact = λ g g_is ne same. absurd (ne e) }
