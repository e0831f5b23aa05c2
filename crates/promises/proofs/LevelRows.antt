-- The row of some levels and the levels of a row, each the other's inverse.
use Prim.Native.Nat.{ℕ, zero, suc, ◌+◌, ◌*◌, ◌/◌, ◌%◌, ◌^◌, ◌<◌}
use mathlib.Core.Path.{◌≡◌, ap, sym, ◌∙◌}
use mathlib.Core.List.{List, [], ◌∷◌, ◌++◌}
use native.Mathlib.Decide.{dec_lt}
use native.Mathlib.Nat.{mod-lt, mul-zero, mul-suc, suc-mul, zero-mul, mul_comm, mul-div_right, div-add-mod'}
use native.Mathlib.Omega.{arith}
use lib.ListN.{length, get_or, length-append, get_or-append, get_or-eq_default}
use lib.Seq.{ext_get_or, get_or-append-add}
use Rattle.defs.specs.Place.{tab}
use Rattle.defs.specs.Distance.{symbol}
use Rattle.defs.specs.Levels.{level, levels_of, levels_row}
use Rattle.theory.proofs.Place.{length_tab, get_d_tab, tab_same, tab_get_d}
use Rattle.theory.proofs.Distance.{chunks_all}
use Rattle.levels.proofs.Words.{digit_at}
use Rattle.levels.proofs.Horner.{level_ext, level_digit, digits_level}
use Rattle.levels.proofs.Writing.{length_levels, level_at}

module _ (q r : ℕ) where
  pub length_row : (s : List ℕ) → length (levels_row q r s) ≡ r * length s
  unfolding levels_row
  length_row [] = sym (mul-zero r)
  length_row (v ∷ s) = omega (arith, length-append (tab (digit_at q r v) r) (levels_row q r s), length_tab (digit_at q r v) r, length_row s, mul-suc r (length s))

  row_symbol : (s : List ℕ) (i j : ℕ) → i < length s → j < r → get_or (levels_row q r s) (i * r + j) 0 ≡ digit_at q r (get_or s i 0) j
  unfolding levels_row
  row_symbol [] i j l k = absurd (omega arith)
  row_symbol (v ∷ s) zero j l k =
      let e : 0 * r + j ≡ j = omega (arith, zero-mul r) in
      ap (λ (x : ℕ). get_or (tab (digit_at q r v) r ++ levels_row q r s) x 0) e
      ∙ get_or-append (tab (digit_at q r v) r) (levels_row q r s) 0 j (omega (arith, length_tab (digit_at q r v) r))
      ∙ get_d_tab (digit_at q r v) r j k
  row_symbol (v ∷ s) (suc i) j l k =
      let e : suc i * r + j ≡ length (tab (digit_at q r v) r) + (i * r + j) = omega (arith, suc-mul i r, length_tab (digit_at q r v) r) in
      ap (λ (x : ℕ). get_or (tab (digit_at q r v) r ++ levels_row q r s) x 0) e
      ∙ get_or-append-add (tab (digit_at q r v) r) (levels_row q r s) (i * r + j) 0
      ∙ row_symbol s i j (omega arith) k

  -- they are all symbols
  pub row_low : 0 < q → (s : List ℕ) (x : ℕ) → get_or (levels_row q r s) x 0 < q
  row_low pos s x = go (dec_lt x (r * length s))
    where
      go : Dec (x < r * length s) → get_or (levels_row q r s) x 0 < q
      go (yes l) = chunks_all r (length s) (λ x. get_or (levels_row q r s) x 0 < q) (λ i k j n. rw (row_symbol s i j k n) (mod-lt _ pos)) x l
      go (no l) = rw (get_or-eq_default (levels_row q r s) 0 {n = x} (omega (arith, length_row s))) pos

  module _ (some : 0 < r) where
    pub levels_again : (s : List ℕ) → ((i : ℕ) → i < length s → get_or s i 0 < q ^ r) → levels_of q r (levels_row q r s) ≡ s
    unfolding levels_of
    levels_again s low =
        let count : length (levels_row q r s) / r ≡ length s = ap (λ (x : ℕ). x / r) (length_row s) ∙ mul-div_right (length s) some in
        ap (tab (λ i. level q r (symbol r (levels_row q r s) i))) count
        ∙ tab_same _ (λ i. get_or s i 0) (length s)
        (λ i l. level_ext q r _ (digit_at q r (get_or s i 0)) (λ j k. row_symbol s i j l k) ∙ digits_level q r (get_or s i 0) (low i l))
        ∙ tab_get_d s

    pub row_again : 0 < q → (w : List ℕ) → length w % r ≡ 0 → ((i : ℕ) → get_or w i 0 < q) → levels_row q r (levels_of q r w) ≡ w
    row_again pos w whole low =
        ext_get_or 0 _ w long
        (λ x l. chunks_all r (length w / r) (λ x. get_or (levels_row q r (levels_of q r w)) x 0 ≡ get_or w x 0)
        (λ i k j n. row_symbol (levels_of q r w) i j (omega (arith, length_levels q r w)) n
        ∙ ap (λ (v : ℕ). digit_at q r v j) (level_at q r w i k)
        ∙ level_digit q pos r (symbol r w i) (λ j m. low (i * r + j)) j n)
        x (omega (arith, row_long)))
      where
        row_long : length (levels_row q r (levels_of q r w)) ≡ r * (length w / r)
        row_long = length_row (levels_of q r w) ∙ ap (λ (x : ℕ). r * x) (length_levels q r w)

        long : length (levels_row q r (levels_of q r w)) ≡ length w
        long = omega (arith, row_long, mul_comm r (length w / r), div-add-mod' (length w) r)
