-- The key equation with a depth for each chunk: a row near that of a message has a solution, and in every solution Q₀ is f·Q₁.
use Prim.Native.Nat.{ℕ, suc, ◌+◌, ◌-◌, ◌^◌, ◌<◌, ◌≤◌}
use mathlib.Core.Path.{◌≡◌, ap, sym, ◌∙◌}
use mathlib.Core.List.{List}
use native.Mathlib.Nat.{le_of_eq}
use native.Mathlib.Decide.{dec_lt}
use native.Mathlib.Omega.{arith}
use Rattle.defs.specs.Field.{Width, add, mul}
use Rattle.defs.specs.Place.{total, Symbols}
use Rattle.defs.specs.Distance.{agree}
use Rattle.defs.specs.Pair.{Zero}
use Rattle.theory.specs.Limits.{Distinct}
use Rattle.theory.specs.Poly.{h, pmul, product}
use Rattle.theory.specs.Vanish.{Deg, Same}
use Rattle.theory.specs.Chunks.{agreement, apart, row_at}
use Rattle.theory.specs.Key.{conv, Key, Solution}
use Rattle.theory.proofs.Field.{add_0, add_self, mul_0, 0-mul}
use Rattle.theory.proofs.Generator.{one_lt}
use Rattle.theory.proofs.Sum.{conv_ext, conv_add, conv_terms}
use Rattle.theory.proofs.Linear.{h_padd, h_zero, zero_same}
use Rattle.theory.proofs.Leibniz.{leibniz}
use Rattle.theory.proofs.Multiply.{deg_length, padd_deg, padd_symbols, pmul_deg, pmul_symbols}
use Rattle.theory.proofs.Product.{product_roots, product_monic, product_symbols}
use Rattle.theory.proofs.Count.{root_count}
use Rattle.theory.proofs.Agree.{agree_le, agree_eq}
use Rattle.theory.proofs.Chunks.{apart_agreement}

module _ (m : ℕ) (width : Width m) (P r : ℕ → ℕ) (n : ℕ) (w : ℕ → ℕ → ℕ) where
  -- a product of a sum and a third, where the third is 0 unless the sum is
  either : (F K G : ℕ → ℕ) (s a b : ℕ) → ((k : ℕ) → k < s → F k ≡ K k) → (s ≤ a → G b ≡ 0) → Dec (a < s) → mul m (add (F a) (K a)) (G b) ≡ 0
  either F K G s a b e z (yes l) = rw (e a l, add_self) (0-mul m (G b))
  either F K G s a b e z (no l) = rw (z (omega arith)) (mul_0 m _)

  module _ (f : List ℕ) where
    agreed : ℕ → ℕ
    agreed i = agree (r i) (row_at m P f i) (w i)

    damaged : ℕ → ℕ
    damaged i = r i - agreed i

    -- the product of x - P i, as often as chunk i is damaged
    locator : List ℕ
    locator = product m P damaged n

    locate : Key m P r n w (pmul m f locator) locator
    unfolding locator agreed damaged
    locate i l j l' =
        ap (λ (x : ℕ). add x (conv m j (w i) (λ a. h m (P i) a locator))) (leibniz m (P i) j f locator)
        ∙ sym (conv_add m j (λ a. h m (P i) a f) (w i) (λ a. h m (P i) a locator))
        ∙ conv_terms m j _ _
        (λ a l''. either (λ b. h m (P i) b f) (w i) (λ b. h m (P i) b locator) (agreed i) a (j - a)
        (agree_eq (r i) (row_at m P f i) (w i)) (λ le. product_roots m P damaged n i l (j - a) (omega arith)) (dec_lt a (agreed i)))

    locator_deg : Deg (suc (total n damaged)) locator
    unfolding locator
    locator_deg = deg_length _ locator (le_of_eq (product_monic m P damaged n).size)

    locator_ne : Zero locator → ⊥
    unfolding locator
    locator_ne z = omega (arith, (product_monic m P damaged n).top, z (total n damaged))

    -- a row within t of that of f has a solution that is not 0
    pub near_exists : (k t : ℕ) → Deg k f → apart n r (row_at m P f) w ≤ t
        → (Q₀ : List ℕ) × (Q₁ : List ℕ) × Solution m P r n k t w Q₀ Q₁ × (Zero Q₁ → ⊥)
    unfolding apart agreed damaged locator
    near_exists k t d near = (
      pmul m f locator,
      locator,
      record {
        symbols₀ = pmul_symbols m f locator;
        symbols₁ = product_symbols m P damaged n (one_lt m width);
        deg₀ = λ i l. pmul_deg m k (total n damaged) f locator d locator_deg i (omega arith);
        deg₁ = λ i l. locator_deg i (omega arith);
        key = locate;
      },
      locator_ne,
    )

  module _ (low : (i : ℕ) → P i < 2 ^ m) (ne : Distinct n P) (Q₀ Q₁ : List ℕ) where
    -- and in every solution Q₀ is f·Q₁, because the other zeros of Q₀ + f·Q₁ are more than its degree
    pub near_decodes : (k t : ℕ) (f : List ℕ) → Symbols m f → Deg k f → apart n r (row_at m P f) w ≤ t → t + t + k ≤ total n r
        → Solution m P r n k t w Q₀ Q₁ → Same Q₀ (pmul m f Q₁)
    unfolding agreement agreed
    near_decodes k t f o d near fits s =
        let all = apart_agreement n r (row_at m P f) w in
        zero_same Q₀ (pmul m f Q₁)
        (root_count m width P (agreed f) n low ne _ (padd_symbols m Q₀ _ s.symbols₀ (pmul_symbols m f Q₁))
        (λ i l j l'. h_padd m (P i) j Q₀ _
        ∙ ap (λ (x : ℕ). add (h m (P i) j Q₀) x)
        (leibniz m (P i) j f Q₁ ∙ conv_ext m j _ (w i) _ (λ a l''. agree_eq (r i) (row_at m P f i) (w i) a (omega arith)))
        ∙ s.key i l j (omega (arith, agree_le (r i) (row_at m P f i) (w i))))
        (padd_deg _ Q₀ _ (λ i l. s.deg₀ i (omega arith)) (λ i l. pmul_deg m k t f Q₁ d s.deg₁ i (omega arith))))

    -- a solution whose Q₁ is 0 is 0
    pub trivial : Symbols m Q₀ → Deg (total n r) Q₀ → Key m P r n w Q₀ Q₁ → Zero Q₁ → Zero Q₀
    trivial o d key z =
        root_count m width P r n low ne Q₀ o
        (λ i l j l'. sym (add_0 _)
        ∙ ap (λ (x : ℕ). add (h m (P i) j Q₀) x) (sym (conv_terms m j (w i) _ (λ a l''. rw (h_zero m (P i) (j - a) Q₁ z) (mul_0 m _))))
        ∙ key i l j l')
        d
