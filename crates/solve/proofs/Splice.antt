-- A list into which a part of another one has been copied.
use mathlib.Core.Path.{◌≡◌, ap, ◌∙◌}
use mathlib.Core.List.{List, ◌++◌}
use mathlib.Core.Logic.{⊎_elim}
use Prim.Native.Nat.{ℕ, ◌+◌, ◌-◌, ◌<◌, ◌≤◌}
use native.Mathlib.Omega.{arith}
use lib.ListN.{length, get_or, take, drop, get_or-append, length-drop}
use Rattle.std.proofs.lemmas.List.{get_or-take, get_or-drop, get_or-append_right, length-take-le}
use Rattle.theory.proofs.Order.{lt_or_le, eq_lt}
use Rattle.defs.specs.Place.{Symbols}

-- n entries of s from b on, copied into t at a
module _ (a b n k : ℕ) (t s part : List ℕ) (fits : a + n ≤ length t) (enough : b + n ≤ length s) (all : k ≡ n) (taken : part ≡ take k (drop b s)) where
  abbrev pub spliced : List ℕ
  spliced = take a t ++ (part ++ drop n (drop a t))

  front : length (take a t) ≡ a
  front = length-take-le a t (omega arith)

  is : part ≡ take n (drop b s)
  is = taken ∙ ap (λ (i : ℕ). take i (drop b s)) all

  long : length part ≡ n
  long = ap length is ∙ length-take-le n (drop b s) (omega (arith, length-drop b s))

  past : (i : ℕ) → a ≤ i → get_or spliced i 0 ≡ get_or (part ++ drop n (drop a t)) (i - a) 0
  past i h = get_or-append_right (take a t) _ a i 0 front h

  pub inside : (i : ℕ) → a ≤ i → i < a + n → get_or spliced i 0 ≡ get_or s (b + (i - a)) 0
  inside i h l =
      past i h ∙ get_or-append part _ 0 (i - a) (omega (arith, long)) ∙ ap (λ (p : List ℕ). get_or p (i - a) 0) is
      ∙ get_or-take n (drop b s) (i - a) 0 (omega arith) ∙ get_or-drop b s (i - a) 0

  before : (i : ℕ) → i < a → get_or spliced i 0 ≡ get_or t i 0
  before i l = get_or-append (take a t) _ 0 i (omega (arith, front)) ∙ get_or-take a t i 0 l

  behind : (i : ℕ) → a + n ≤ i → get_or spliced i 0 ≡ get_or t i 0
  behind i h =
      let e : a + (n + (i - a - n)) ≡ i = omega arith in
      past i (omega arith) ∙ get_or-append_right part _ n (i - a) 0 long (omega arith) ∙ get_or-drop n (drop a t) (i - a - n) 0
      ∙ get_or-drop a t (n + (i - a - n)) 0 ∙ ap (λ (j : ℕ). get_or t j 0) e

  pub outside : (i : ℕ) → (a ≤ i → i < a + n → ⊥) → get_or spliced i 0 ≡ get_or t i 0
  outside i o = ⊎_elim (before i) (λ h. ⊎_elim (λ l. absurd (o h l)) (behind i) (lt_or_le i (a + n))) (lt_or_le i a)

  pub symbols : (m : ℕ) → Symbols m t → Symbols m s → Symbols m spliced
  symbols m T S i =
      ⊎_elim
      (λ l. eq_lt (before i l) (T i))
      (λ h. ⊎_elim (λ l. eq_lt (inside i h l) (S _)) (λ l. eq_lt (behind i l) (T i)) (lt_or_le i (a + n)))
      (lt_or_le i a)
