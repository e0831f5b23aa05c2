-- Theorem 6 of the paper, with a depth for each chunk: how deep the rows of two different messages agree, and that the bound is attained.
use Prim.Native.Nat.{ℕ, zero, suc, ◌+◌, ◌-◌, ◌^◌, ◌<◌, ◌≤◌, min}
use mathlib.Core.Path.{◌≡◌, sym, ◌∙◌}
use mathlib.Core.List.{List}
use native.Mathlib.Nat.{le_of_eq}
use native.Mathlib.Decide.{dec_lt}
use native.Mathlib.Omega.{arith}
use Rattle.defs.specs.Field.{Width, add}
use Rattle.defs.specs.Place.{total, Symbols}
use Rattle.defs.specs.Distance.{agree}
use Rattle.defs.specs.Pair.{Zero}
use Rattle.theory.specs.Limits.{Distinct}
use Rattle.theory.specs.Poly.{padd, product}
use Rattle.theory.specs.Vanish.{Deg, Same, Monic}
use Rattle.theory.specs.Chunks.{agreement, apart, row_at}
use Rattle.theory.proofs.Field.{add_self}
use Rattle.theory.proofs.Generator.{one_lt}
use Rattle.theory.proofs.Place.{total_mono}
use Rattle.theory.proofs.Linear.{h_padd, h_zero, zero_same}
use Rattle.theory.proofs.Multiply.{deg_length, padd_deg, padd_symbols}
use Rattle.theory.proofs.Product.{product_roots, product_monic, product_symbols}
use Rattle.theory.proofs.Count.{root_count}
use Rattle.theory.proofs.Agree.{agree_eq, agree_max}
use Rattle.theory.proofs.Chunks.{apart_sym, apart_triangle, apart_agreement}

-- fill the depths r from the first chunk on, until N is used up
unfoldable greedy : (ℕ → ℕ) → ℕ → ℕ → ℕ
greedy r N i = min (r i) (N - total i r)

total_greedy : (r : ℕ → ℕ) (N n : ℕ) → total n (greedy r N) ≡ min N (total n r)
unfolding total greedy
total_greedy r N zero = omega arith
total_greedy r N (suc n) = omega (arith, total_greedy r N n)

module _ (m : ℕ) (width : Width m) (P r : ℕ → ℕ) (n : ℕ) (low : (i : ℕ) → P i < 2 ^ m) (ne : Distinct n P) where
  abbrev row : List ℕ → ℕ → ℕ → ℕ
  row = row_at m P

  same : (a b c : ℕ) → c ≡ add a b → a ≡ b → c ≡ 0
  same a b c e e' = e ∙ rw e' (add_self b)

  module _ (k : ℕ) (f g : List ℕ) (o : Symbols m f) (o' : Symbols m g) (d : Deg k f) (d' : Deg k g) where
    -- messages whose rows agree to a total depth of k or more are equal
    agree_same : k ≤ agreement n r (row f) (row g) → Same f g
    unfolding agreement
    agree_same l =
        zero_same f g
        (root_count m width P (λ i. agree (r i) (row f i) (row g i)) n low ne (padd f g) (padd_symbols m f g o o')
        (λ i l' j l''. same _ _ _ (h_padd m (P i) j f g) (agree_eq (r i) (row f i) (row g i) j l''))
        (padd_deg _ f g (λ i l'. d i (omega arith)) (λ i l'. d' i (omega arith))))

    pub agree_less : (Same f g → ⊥) → agreement n r (row f) (row g) < k
    agree_less differ = go (dec_lt _ k)
      where
        go : Dec (agreement n r (row f) (row g) < k) → agreement n r (row f) (row g) < k
        go (yes l) = l
        go (no l) = absurd (differ (agree_same (omega arith)))

    -- two messages so near to one row W that the distances and k make no more than the total depth are equal
    pub unique : (W : ℕ → ℕ → ℕ) → apart n r (row f) W + apart n r (row g) W + k ≤ total n r → Same f g
    unique W near =
        agree_same
        (omega (arith, apart_agreement n r (row f) (row g), apart_triangle n r (row f) W (row g), apart_sym n r W (row g)))

  module _ (N : ℕ) (fits : N ≤ total n r) where
    sharpest : List ℕ
    sharpest = product m P (greedy r N) n

    depth : total n (greedy r N) ≡ N
    depth = omega (arith, total_greedy r N n)

    monic : Monic N sharpest
    unfolding sharpest
    monic = rw depth at (product_monic m P (greedy r N) n)

    symbols : Symbols m sharpest
    unfolding sharpest
    symbols = product_symbols m P (greedy r N) n (one_lt m width)

    at_least : (g : List ℕ) → Zero g → total n (greedy r N) ≤ agreement n r (row sharpest) (row g)
    unfolding agreement sharpest greedy
    at_least g z =
        total_mono n _ _
        (λ i l. agree_max (r i) _ _ _ (omega arith) (λ j l'. product_roots m P (greedy r N) n i l j l' ∙ sym (h_zero m (P i) j g z)))

    exactly : (g : List ℕ) → Symbols m g → Zero g → agreement n r (row sharpest) (row g) ≡ N
    exactly g o z =
        omega (
          arith,
          depth,
          at_least g z,
          agree_less (suc N) sharpest g symbols o (deg_length (suc N) sharpest (le_of_eq monic.size)) (λ i l. z i)
              (λ e. omega (arith, monic.top, e N, z N)),
        )

    -- some polynomial of degree N has a row that agrees with that of 0 to a total depth of exactly N
    pub sharp : (f : List ℕ) × Symbols m f × Monic N f × ((g : List ℕ) → Symbols m g → Zero g → agreement n r (row f) (row g) ≡ N)
    sharp = (sharpest, symbols, monic, exactly)
