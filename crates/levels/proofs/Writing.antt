-- The text of a row, level after level, and that there is room for it.
use Prim.Native.Nat.{ℕ, zero, suc, ◌+◌, ◌*◌, ◌-◌, ◌/◌, ◌^◌, ◌<◌, ◌≤◌, zero-le}
use mathlib.Core.Path.{◌≡◌, refl, ap, ap₂, sym, ◌∙◌}
use mathlib.Core.List.{List, [], ◌∷◌, ◌++◌, append_assoc}
use native.Mathlib.Decide.{dec_lt}
use native.Mathlib.Nat.{
  lt_of_lt_of_le,
  zero-add,
  zero-mul,
  suc-mul,
  mul-suc,
  mul_assoc,
  mul_comm,
  mul-le-mul_right,
  pow-suc,
  pow-le-pow_left,
  one-le-pow,
  div-eq_of_lt,
  div-mul-le_self,
  add-div_left,
}
use native.Mathlib.Numerals.{add-one}
use native.Mathlib.Omega.{arith}
use lib.Dec.{lit<}
use lib.ListN.{length, get_or, length-append, get_or-append, get_or-eq_default}
use lib.Pow.{pow-add}
use Rattle.std.proofs.lemmas.List.{get_or-append-add}
use Rattle.defs.specs.Distance.{symbol}
use Rattle.defs.specs.Limits.{longest}
use Rattle.defs.specs.Place.{tab}
use Rattle.defs.specs.Text.{decimal}
use Rattle.defs.specs.Levels.{level, levels_of, levels_text}
use Rattle.theory.proofs.Place.{length_tab, get_d_tab, tab_same}
use Rattle.text.proofs.Decimal.{length_decimal}
use Rattle.levels.specs.Base.{Base, room}
use Rattle.levels.proofs.Horner.{level_ext, level_low}

-- a level's line
abbrev pub line_of : ℕ → List ℕ
line_of v = decimal v ++ (10 ∷ [])

pub text_none : levels_text [] ≡ []
unfolding levels_text
text_none = refl

pub text_front : (v : ℕ) (s : List ℕ) → levels_text (v ∷ s) ≡ line_of v ++ levels_text s
unfolding levels_text
text_front v s = refl

-- a level's line behind what stands already
pub text_behind : (text : List ℕ) (v : ℕ) (s : List ℕ) → ((text ++ decimal v) ++ (10 ∷ [])) ++ levels_text s ≡ text ++ levels_text (v ∷ s)
text_behind text v s =
    append_assoc (text ++ decimal v) (10 ∷ []) (levels_text s) ∙ append_assoc text (decimal v) ((10 ∷ []) ++ levels_text s)
    ∙ ap (λ (t : List ℕ). text ++ t) (sym (append_assoc (decimal v) (10 ∷ []) (levels_text s)) ∙ sym (text_front v s))

-- numbers below 10 ^ (d + 1) have at most so many digits, and a newline each
text_short : (d : ℕ) (s : List ℕ) → ((i : ℕ) → get_or s i 0 < 10 ^ suc d) → length (levels_text s) ≤ (d + 2) * length s
text_short d [] h = rw text_none zero-le
text_short d (v ∷ s) h =
    omega (
      arith,
      ap length (text_front v s),
      length-append (line_of v) (levels_text s),
      length-append (decimal v) (10 ∷ []),
      length_decimal d v (h 0),
      text_short d s (λ i. h (suc i)),
      mul-suc (d + 2) (length s),
    )

-- ---- the levels of a row

thousand : (r : ℕ) → 1000 ^ r ≡ 10 ^ (3 * r)
thousand zero = refl
thousand (suc r) =
    pow-suc 1000 r ∙ ap (λ (x : ℕ). x * 1000) (thousand r)
    ∙ sym (ap (λ (x : ℕ). 10 ^ x) (mul-suc 3 r) ∙ pow-add 10 (3 * r) 3)

module _ (q r : ℕ) (w : List ℕ) where
  pub length_levels : length (levels_of q r w) ≡ length w / r
  unfolding levels_of
  length_levels = length_tab _ (length w / r)

  pub level_at : (i : ℕ) → i < length w / r → get_or (levels_of q r w) i 0 ≡ level q r (symbol r w i)
  unfolding levels_of
  level_at i l = get_d_tab _ (length w / r) i l

  pub levels_none : length w < r → levels_of q r w ≡ []
  unfolding levels_of tab
  levels_none l = rw (div-eq_of_lt l) refl

  pub levels_front : (chunk : List ℕ) → length chunk ≡ r → 0 < r
      → levels_of q r (chunk ++ w) ≡ level q r (λ j. get_or chunk j 0) ∷ levels_of q r w
  unfolding levels_of tab
  levels_front chunk size some = rw count (ap₂ ◌∷◌ first rest)
    where
      count : length (chunk ++ w) / r ≡ suc (length w / r)
      count = rw (length-append chunk w, size) (add-div_left (length w) some ∙ add-one (length w / r))

      first : level q r (symbol r (chunk ++ w) 0) ≡ level q r (λ j. get_or chunk j 0)
      first = level_ext q r _ _ (λ j l. rw zero-mul (rw zero-add (get_or-append chunk w 0 j (omega (arith, size)))))

      rest : tab (λ i. level q r (symbol r (chunk ++ w) (suc i))) (length w / r) ≡ tab (λ i. level q r (symbol r w i)) (length w / r)
      rest = tab_same _ _ _ (λ i k. level_ext q r _ _ (λ j l.
          let e : suc i * r + j ≡ length chunk + (i * r + j) = omega (arith, suc-mul i r, size) in
          ap (λ (x : ℕ). get_or (chunk ++ w) x 0) e ∙ get_or-append-add chunk w (i * r + j) 0))

  module _ (base : Base q r) (symbols : (i : ℕ) → get_or w i 0 < q) (short : length w ≤ longest) where
    -- no level has more digits than three for each symbol
    level_short : (i : ℕ) → get_or (levels_of q r w) i 0 < 10 ^ (3 * r)
    level_short i = go (dec_lt i (length w / r))
      where
        go : Dec (i < length w / r) → get_or (levels_of q r w) i 0 < 10 ^ (3 * r)
        go (yes l) =
            rw (level_at i l, ← thousand r)
            (lt_of_lt_of_le (level_low q r (symbol r w i) (λ j k. symbols _)) (pow-le-pow_left {n = q} {m = 1000} (omega (arith, base.small)) r))
        go (no l) = rw (get_or-eq_default (levels_of q r w) 0 {n = i} (omega (arith, length_levels))) (one-le-pow (3 * r) 10 (lit< tt))

    pub levels_fit : length (levels_text (levels_of q r w)) ≤ room
    levels_fit =
        let d = 3 * r - 1 in
        let e : 3 * r ≡ suc d = omega (arith, base.some) in
        omega (
          arith,
          text_short d (levels_of q r w) (λ i. rw e at (level_short i)),
          ap (λ (x : ℕ). (d + 2) * x) length_levels,
          mul-le-mul_right (length w / r) few,
          mul_assoc 4 r (length w / r),
          mul_comm r (length w / r),
          div-mul-le_self (length w) r,
          short,
        )
      where
        few : 3 * r - 1 + 2 ≤ 4 * r
        few = omega (arith, base.some)
