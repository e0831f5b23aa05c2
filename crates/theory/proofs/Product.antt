-- The product of (x - P i)^(s i): its roots, its length and its top coefficient.
use Prim.Native.Nat.{ℕ, zero, suc, ◌+◌, ◌^◌, ◌<◌}
use mathlib.Core.Path.{◌≡◌, refl, ◌∙◌, subst}
use mathlib.Core.List.{List, [], ◌∷◌}
use native.Mathlib.Nat.{not-suc-le-zero, add-zero, add-suc}
use native.Mathlib.Decide.{dec_lt}
use native.Mathlib.Omega.{arith}
use lib.ListN.{get_or-eq_default}
use lib.Pow.{pow_pos}
use Rattle.defs.specs.Field.{add, mul}
use Rattle.defs.specs.Place.{total, Symbols}
use Rattle.theory.specs.Poly.{h, linear, linears, product}
use Rattle.theory.specs.Vanish.{Root, Roots, Monic}
use Rattle.theory.proofs.Field.{ring, mul_0}
use Rattle.theory.proofs.Linear.{get_d_padd, h_padd, h_scale}
use Rattle.theory.proofs.Multiply.{get_d_scale, length_padd, length_scale, padd_symbols, shift_symbols, scale_symbols}

module _ (m : ℕ) where
  -- ---- the factor x - P at the point P'

  step_zero : (P P' x : ℕ) → add (add 0 (mul m P' x)) (mul m P x) ≡ mul m (add P' P) x
  step_zero P P' x = simp ring

  step_suc : (P P' x y : ℕ) → add (add y (mul m P' x)) (mul m P x) ≡ add y (mul m (add P' P) x)
  step_suc P P' x y = simp ring

  h_linear_zero : (P P' : ℕ) (f : List ℕ) → h m P' 0 (linear m P f) ≡ mul m (add P' P) (h m P' 0 f)
  unfolding linear h
  h_linear_zero P P' f = rw (h_padd, h_scale) (step_zero P P' _)

  h_linear_suc : (P P' j : ℕ) (f : List ℕ) → h m P' (suc j) (linear m P f) ≡ add (h m P' j f) (mul m (add P' P) (h m P' (suc j) f))
  unfolding linear h
  h_linear_suc P P' j f = rw (h_padd, h_scale) (step_suc P P' _ _)

  zeros : (a b c : ℕ) → a ≡ 0 → b ≡ 0 → add a (mul m c b) ≡ 0
  zeros a b c e e' = rw (e, e') (simp ring)

  -- it keeps every root
  linear_keeps : (P P' s : ℕ) (f : List ℕ) → Root m f P' s → Root m (linear m P f) P' s
  linear_keeps P P' s f v zero l = h_linear_zero P P' f ∙ rw (v 0 l) (mul_0 m _)
  linear_keeps P P' s f v (suc j) l = h_linear_suc P P' j f ∙ zeros _ _ _ (v j (omega arith)) (v (suc j) l)

  own_zero : (P x : ℕ) → mul m (add P P) x ≡ 0
  own_zero P x = simp ring

  own_suc : (P x y : ℕ) → y ≡ 0 → add y (mul m (add P P) x) ≡ 0
  own_suc P x y e = rw e (simp ring)

  -- and makes a root at P one deeper
  linear_deepens : (P s : ℕ) (f : List ℕ) → Root m f P s → Root m (linear m P f) P (suc s)
  linear_deepens P s f v zero l = h_linear_zero P P f ∙ own_zero P _
  linear_deepens P s f v (suc j) l = h_linear_suc P P j f ∙ own_suc P _ _ (v j (omega arith))

  top : (P x y : ℕ) → x ≡ 1 → y ≡ 0 → add x (mul m P y) ≡ 1
  top P x y e e' = rw (e, e') (simp ring)

  linear_monic : (P N : ℕ) (f : List ℕ) → Monic N f → Monic (suc N) (linear m P f)
  unfolding linear
  linear_monic P N f c =
      record {
        size = length_padd _ _ ∙ omega (arith, length_scale m P f);
        top = get_d_padd (0 ∷ f) _ (suc N) ∙ rw get_d_scale (top P _ _ c.top (get_or-eq_default f 0 (omega arith)));
      }

  linear_symbols : (P : ℕ) (f : List ℕ) → Symbols m f → Symbols m (linear m P f)
  unfolding linear
  linear_symbols P f o = padd_symbols m (0 ∷ f) _ (shift_symbols m f o) (scale_symbols m P f)

  -- ---- its powers

  linears_keeps : (P P' s k : ℕ) (f : List ℕ) → Root m f P' s → Root m (linears m P k f) P' s
  unfolding linears
  linears_keeps P P' s zero f v = v
  linears_keeps P P' s (suc k) f v = linear_keeps P P' s _ (linears_keeps P P' s k f v)

  linears_root : (P k : ℕ) (f : List ℕ) → Root m (linears m P k f) P k
  unfolding linears
  linears_root P zero f = λ j l. absurd (not-suc-le-zero l)
  linears_root P (suc k) f = linear_deepens P k _ (linears_root P k f)

  linears_monic : (P k N : ℕ) (f : List ℕ) → Monic N f → Monic (N + k) (linears m P k f)
  unfolding linears
  linears_monic P zero N f c = rw add-zero c
  linears_monic P (suc k) N f c = rw add-suc (linear_monic P (N + k) _ (linears_monic P k N f c))

  linears_symbols : (P k : ℕ) (f : List ℕ) → Symbols m f → Symbols m (linears m P k f)
  unfolding linears
  linears_symbols P zero f o = o
  linears_symbols P (suc k) f o = linear_symbols P _ (linears_symbols P k f o)

  -- ---- the product

  module _ (P s : ℕ → ℕ) where
    pub product_roots : (n : ℕ) → Roots m (product m P s n) n P s
    unfolding product
    product_roots zero i l = absurd (not-suc-le-zero l)
    product_roots (suc n) i l = go (dec_lt i n) (product_roots n i)
      where
        go : Dec (i < n) → (i < n → Root m (product m P s n) (P i) (s i)) → Root m (product m P s (suc n)) (P i) (s i)
        go (yes l') ih = linears_keeps (P n) (P i) (s i) (s n) _ (ih l')
        go (no l') ih =
            subst (λ (k : ℕ). Root m (product m P s (suc n)) (P k) (s k)) (omega arith)
            (linears_root (P n) (s n) (product m P s n))

    pub product_monic : (n : ℕ) → Monic (total n s) (product m P s n)
    unfolding total product
    product_monic zero = record { size = refl; top = refl }
    product_monic (suc n) = linears_monic (P n) (s n) (total n s) _ (product_monic n)

    pub product_symbols : (n : ℕ) → 1 < 2 ^ m → Symbols m (product m P s n)
    unfolding product
    product_symbols zero one = shown
      where
        shown : Symbols m (1 ∷ [])
        shown zero = one
        shown (suc i) = pow_pos m
    product_symbols (suc n) one = linears_symbols (P n) (s n) _ (product_symbols n one)
