-- Levels as machine words: the highest, one that is put together from a chunk, and one that is taken apart.
use Prim.Native.Nat.{ℕ, suc, ◌+◌, ◌*◌, ◌-◌, ◌/◌, ◌%◌, ◌^◌, ◌<◌, ◌≤◌}
use mathlib.Core.Path.{◌≡◌, ap, sym, ◌∙◌}
use mathlib.Core.List.{List}
use native.Mathlib.Nat.{le_trans, add-mul, one-mul, pow-suc, pow-le-pow_left, pow-le-pow_right, div-div-eq-div-mul}
use native.Nat.{ℕᴺ_discrete}
use native.Mathlib.Numerals.{add-one}
use native.Mathlib.Omega.{arith}
use lib.Dec.{lit<}
use lib.ListN.{length, get_or, set, length-set}
use lib.Seq.{ext_get_or, get_or-set_same, get_or-set_other}
use Rattle.defs.specs.Limits.{deepest}
use Rattle.defs.specs.Levels.{level}
use Rattle.theory.proofs.Place.{length_tab, get_d_tab}
use Rattle.theory.proofs.Width.{width_pos, field_top}
use Rattle.defs.specs.Field.{Width}
use lib.Pow.{pow-lt}
use Rattle.defs.specs.Place.{tab}
use Rattle.levels.specs.Base.{Base}
use Rattle.levels.proofs.Horner.{level_more, level_low}

-- a field and a depth
pub base_of : (m r q : ℕ) → Width m → (0 < r) × (r ≤ deepest) → q ≡ 2 ^ m → Base q r
base_of m r q w d e = record {
  more = rw e (pow-lt {i = 0} (width_pos m w));
  small = rw e (field_top m w);
  some = d.0;
  depth = d.1;
}

module _ (q r : ℕ) (b : Base q r) where
  -- q ^ j is at most 256 ^ 8
  pub word : (j : ℕ) → j ≤ r → q ^ j ≤ 2 ^ 64
  word j l = le_trans (pow-le-pow_left b.small j) (pow-le-pow_right {n = 256} (lit< tt) {i = j} {j = 8} (omega (arith, b.depth)))

  -- ---- the highest

  module _ (top j : ℕ) (e : top + 1 ≡ q ^ j) (l : j < r) where
    pub highest_more : top * q + (q - 1) + 1 ≡ q ^ (j + 1)
    highest_more =
        let grown : (top + 1) * q ≡ q ^ (j + 1) = ap (λ (x : ℕ). x * q) e ∙ sym (pow-suc q j) ∙ ap (λ (x : ℕ). q ^ x) (sym (add-one j)) in
        omega (arith, add-mul top 1 q, one-mul q, b.more)

    pub highest_fits : top * q + (q - 1) < 2 ^ 64
    highest_fits = omega (arith, highest_more, word (j + 1) (omega arith))

  -- ---- put together

  module _ (chunk : List ℕ) (low : (i : ℕ) → get_or chunk i 0 < q) (v j : ℕ) (e : v ≡ level q j (λ i. get_or chunk i 0)) (l : j < r) where
    pub level_grows : v * q + get_or chunk j 0 ≡ level q (j + 1) (λ i. get_or chunk i 0)
    level_grows =
        ap (λ (x : ℕ). x * q + get_or chunk j 0) e ∙ sym (level_more q j (λ i. get_or chunk i 0))
        ∙ ap (λ (x : ℕ). level q x (λ i. get_or chunk i 0)) (sym (add-one j))

    pub level_fits : v * q + get_or chunk j 0 < 2 ^ 64
    level_fits =
        omega (arith, level_grows, level_low q (j + 1) (λ i. get_or chunk i 0) (λ i k. low i), word (j + 1) (omega arith))

-- ---- taken apart

-- the digit of v with the weight q ^ (r - 1 - j)
abbrev pub digit_at : ℕ → ℕ → ℕ → ℕ → ℕ
digit_at q r v j = v / q ^ (r - 1 - j) % q

-- the last digits are written from the place j on, and what is left of v is rest
pub record Apart (q r v j rest : ℕ) (chunk : List ℕ) : Type 0 where
  pub rest_is : rest ≡ v / q ^ (r - j)
  pub size : length chunk ≡ r
  pub written : (i : ℕ) → i < r → j ≤ i → get_or chunk i 0 ≡ digit_at q r v i

module _ (q r v : ℕ) where
  module _ (j rest : ℕ) (chunk : List ℕ) where
    pub apart_more : 0 < j → j ≤ r → Apart q r v j rest chunk → Apart q r v (j - 1) (rest / q) (set chunk (j - 1) (rest % q))
    apart_more p l h = record {
      rest_is = ap (λ (x : ℕ). x / q) h.rest_is ∙ div-div-eq-div-mul v (q ^ (r - j)) q ∙ ap (λ (x : ℕ). v / x) power;
      size = length-set chunk (j - 1) (rest % q) ∙ h.size;
      written = λ i k m. at i k m (ℕᴺ_discrete i (j - 1));
    }
      where
        power : q ^ (r - j) * q ≡ q ^ (r - (j - 1))
        power = let e : r - (j - 1) ≡ suc (r - j) = omega arith in sym (rw e (pow-suc q (r - j)))

        at : (i : ℕ) → i < r → j - 1 ≤ i → Dec (i ≡ j - 1) → get_or (set chunk (j - 1) (rest % q)) i 0 ≡ digit_at q r v i
        at i k m (yes e) =
            let f : r - j ≡ r - 1 - i = omega arith in
            ap (λ (x : ℕ). get_or (set chunk (j - 1) (rest % q)) x 0) e
            ∙ get_or-set_same chunk (j - 1) (rest % q) 0 (omega (arith, h.size))
            ∙ ap (λ (x : ℕ). x % q) h.rest_is ∙ ap (λ (x : ℕ). v / q ^ x % q) f
        at i k m (no n) = get_or-set_other chunk (j - 1) i (rest % q) 0 n ∙ h.written i k (omega arith)

    pub apart_last : j ≤ 0 → Apart q r v j rest chunk → chunk ≡ tab (digit_at q r v) r
    apart_last l h =
        ext_get_or 0 chunk _ (h.size ∙ sym (length_tab (digit_at q r v) r))
        (λ i k. let n : i < r = omega (arith, h.size) in h.written i n (omega arith) ∙ sym (get_d_tab (digit_at q r v) r i n))
