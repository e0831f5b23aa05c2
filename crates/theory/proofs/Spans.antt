-- Entries written side by side, in a part of a list that is lent to be written.
use Prim.Native.Nat.{ℕ, ◌+◌, ◌-◌, ◌^◌, ◌<◌, ◌≤◌}
use mathlib.Core.Path.{◌≡◌, ap, ◌∙◌}
use mathlib.Core.Logic.{⊎_elim}
use mathlib.Core.List.{List, ◌++◌}
use native.Mathlib.Omega.{arith}
use lib.ListN.{length, get_or, take, drop, length-append, length-drop, get_or-append}
use lib.Seq.{length-take-le, get_or-take, get_or-drop, get_or-append-add}
use Rattle.defs.specs.Place.{tab, Symbols}
use Rattle.theory.specs.Fill.{Span}
use Rattle.theory.proofs.Order.{lt_or_le, eq_lt}
use Rattle.theory.proofs.Place.{length_tab, get_d_tab}

-- the n entries from base on are lent, and come back as the list part
pub span_part : {t₀ front back : List ℕ} {base n : ℕ} {g : ℕ → ℕ} (part : List ℕ) → base + n ≤ length t₀ → front ≡ take base t₀ → back ≡ drop base t₀ → length part ≡ n
    → ((a : ℕ) → a < n → get_or part a 0 ≡ g a) → Span t₀ base n g (front ++ (part ++ drop n back))
span_part {t₀} {front} {back} {base} {n} {g} part room f b long is = record {
  size = length-append front (part ++ drop n back) ∙ omega (arith, fits, length-append part (drop n back), length-drop n back, ap length b, length-drop base t₀);
  inside = λ a l.
      let e : base + a ≡ length front + a = omega (arith, fits) in
      ap (λ (k : ℕ). get_or (front ++ (part ++ drop n back)) k 0) e ∙ get_or-append-add front _ a 0 ∙ get_or-append part _ 0 a (omega arith) ∙ is a l;
  outside = λ k o.
      ⊎_elim
      (λ l. get_or-append front _ 0 k (omega (arith, fits)) ∙ ap (λ (s : List ℕ). get_or s k 0) f ∙ get_or-take base t₀ k 0 l)
      (λ l. ⊎_elim (λ h. absurd (o (k - base) (omega arith) (omega arith))) (behind k) (lt_or_le k (base + n)))
      (lt_or_le k base);
}
  where
    fits : length front ≡ base
    fits = ap length f ∙ length-take-le base t₀ (omega arith)

    behind : (k : ℕ) → base + n ≤ k → get_or (front ++ (part ++ drop n back)) k 0 ≡ get_or t₀ k 0
    behind k h =
        let i : ℕ = k - (base + n) in
        let e : k ≡ length front + (length part + i) = omega (arith, fits) in
        let d : base + (n + i) ≡ k = omega arith in
        ap (λ (x : ℕ). get_or (front ++ (part ++ drop n back)) x 0) e ∙ get_or-append-add front _ _ 0 ∙ get_or-append-add part _ i 0
        ∙ get_or-drop n back i 0 ∙ ap (λ (s : List ℕ). get_or s (n + i) 0) b ∙ get_or-drop base t₀ (n + i) 0 ∙ ap (λ (x : ℕ). get_or t₀ x 0) d

-- it comes back as the list of g's first values
pub span_tab : {t₀ front part back : List ℕ} {base n l : ℕ} {g : ℕ → ℕ} → base + n ≤ length t₀ → front ≡ take base t₀ → back ≡ drop base t₀ → l ≡ n
    → part ≡ tab g l → Span t₀ base n g (front ++ (part ++ drop n back))
span_tab {part = part} {l = l} {g = g} room f b long is =
    span_part part room f b (ap length is ∙ length_tab g l ∙ long) (λ a h. ap (λ (s : List ℕ). get_or s a 0) is ∙ get_d_tab g l a (omega arith))

-- an entry of those that are lent behind base, or before it from i on
pub lent_behind : (t : List ℕ) {back : List ℕ} (base n a : ℕ) → back ≡ drop base t → a < n → get_or (take n back) a 0 ≡ get_or t (base + a) 0
lent_behind t {back} base n a b l = get_or-take n back a 0 l ∙ ap (λ (s : List ℕ). get_or s a 0) b ∙ get_or-drop base t a 0

pub lent_before : (t : List ℕ) {front : List ℕ} (base i n a : ℕ) → front ≡ take base t → a < n → i + a < base
    → get_or (take n (drop i front)) a 0 ≡ get_or t (i + a) 0
lent_before t {front} base i n a f h l =
    get_or-take n (drop i front) a 0 h ∙ get_or-drop i front a 0 ∙ ap (λ (s : List ℕ). get_or s (i + a) 0) f ∙ get_or-take base t (i + a) 0 l

pub span_symbols : (m : ℕ) {t₀ t : List ℕ} {base n : ℕ} {g : ℕ → ℕ} → Span t₀ base n g t → Symbols m t₀ → ((a : ℕ) → a < n → g a < 2 ^ m) → Symbols m t
span_symbols m {t₀} {t} {base} {n} {g} S o small k =
    ⊎_elim
    (λ l. kept (λ a h e. omega arith))
    (λ l. ⊎_elim (λ h. new (k - base) (omega arith) (omega arith)) (λ h. kept (λ a i e. omega arith)) (lt_or_le k (base + n)))
    (lt_or_le k base)
  where
    kept : ((a : ℕ) → a < n → k ≡ base + a → ⊥) → get_or t k 0 < 2 ^ m
    kept out = eq_lt (S.outside k out) (o k)

    new : (a : ℕ) → a < n → k ≡ base + a → get_or t k 0 < 2 ^ m
    new a l e = eq_lt (ap (λ (i : ℕ). get_or t i 0) e ∙ S.inside a l) (small a l)
