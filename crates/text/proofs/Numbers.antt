-- Digits in front of some bytes, and the number that they make, up to a highest one.
use Prim.Native.Nat.{ℕ, suc, ◌+◌, ◌*◌, ◌-◌, ◌≤◌, ◌<◌}
use mathlib.Core.Bool.{Bool, true, false, cond, ◌&&◌}
use mathlib.Core.Path.{◌≡◌, refl, ap, sym, ◌∙◌}
use mathlib.Core.List.{List, [], ◌∷◌}
use native.Mathlib.Numerals.{add-one}
use native.Mathlib.Omega.{arith}
use lib.Dec.{leb}
use lib.ListN.{length, get_or, drop, drop_of_length-le}
use lib.Seq.{drop-cons}
use borrow.Author.Tests.{leb-true, leb-false, le-leb, lt-leb}
use Rattle.defs.specs.Text.{is_digit, digit_count, value_from}
use Rattle.text.specs.Number.{capped, Grown, number_in}
use Rattle.std.specs.Prelude.{Option, Some, None}
use Rattle.std.specs.Option.{is_some}
use Rattle.std.specs.Char.{is_ascii_digit}

-- ---- one byte

-- std's word says the same
pub ascii_digit : (b : ℕ) → is_digit b ≡ is_ascii_digit b
unfolding is_digit
ascii_digit b = refl

pub digit_from : (b : ℕ) → 48 ≤ b → is_digit b ≡ leb b 57
unfolding is_digit
digit_from b h = rw (le-leb 48 b h)

both : (a b : Bool) → a && b ≡ true → (a ≡ true) × (b ≡ true)
both true b e = (refl, e)
both false b e = absurd (let z : ◌≡◌ {A = ℕ} 0 1 = cc in omega arith)

pub digit_known : (b : ℕ) → is_digit b ≡ true → (48 ≤ b) × (b ≤ 57)
unfolding is_digit
digit_known b e =
    let t = both (leb 48 b) (leb b 57) e in
    (leb-true 48 b t.0, leb-true b 57 t.1)

-- ---- the bytes from some place on

module _ (b : ℕ) (s : List ℕ) where
  pub count_more : is_digit b ≡ true → digit_count (b ∷ s) ≡ suc (digit_count s)
  unfolding digit_count
  count_more e = rw e

  pub count_none : is_digit b ≡ false → digit_count (b ∷ s) ≡ 0
  unfolding digit_count
  count_none e = rw e

  pub value_more : (v : ℕ) → is_digit b ≡ true → value_from v (b ∷ s) ≡ value_from (v * 10 + (b - 48)) s
  unfolding value_from
  value_more v e = rw e

  pub value_none : (v : ℕ) → is_digit b ≡ false → value_from v (b ∷ s) ≡ v
  unfolding value_from
  value_none v e = rw e

-- ---- up to a highest number

module _ (top : ℕ) where
  pub capped_low : (v : ℕ) → v ≤ top → Some v ≡ capped top v
  unfolding capped
  capped_low v h = rw (le-leb v top h)

  capped_high : (v : ℕ) → top < v → None ≡ capped top v
  unfolding capped
  capped_high v h = rw (lt-leb v top h)

  pub low_capped : (x v : ℕ) → Some x ≡ capped top v → (x ≡ v) × (v ≤ top)
  unfolding capped
  low_capped x v e = go (leb v top) refl e
    where
      go : (t : Bool) → leb v top ≡ t → Some x ≡ cond t (Some v) None → (x ≡ v) × (v ≤ top)
      go true q e = (cc, leb-true v top q)
      go false q e = absurd (let z : ◌≡◌ {A = ℕ} 0 1 = cc in omega arith)

  pub high_capped : (v : ℕ) → None ≡ capped top v → top < v
  unfolding capped
  high_capped v e = go (leb v top) refl e
    where
      go : (t : Bool) → leb v top ≡ t → None ≡ cond t (Some v) None → top < v
      go true q e = absurd (let z : ◌≡◌ {A = ℕ} 0 1 = cc in omega arith)
      go false q e = leb-false v top q

  pub some_capped : (v : ℕ) → is_some (capped top v) ≡ leb v top
  unfolding capped
  some_capped v = go (leb v top)
    where
      go : (t : Bool) → is_some (cond t (Some v) None) ≡ t
      go true = refl
      go false = refl

  -- the ways out of a digit more; old is what the digits before it make
  module _ (old : Option ℕ) (b : ℕ) where
    pub grown_none : old ≡ None → Grown top old b None
    grown_none e = record { grows = λ v q. capped_high _ (omega (arith, high_capped v (sym e ∙ q))) }

    module _ (x digit : ℕ) (e : old ≡ Some x) (d : digit ≡ b - 48) where
      pub grown_high : top < x * 10 + digit → Grown top old b None
      grown_high l = record { grows = λ v q. capped_high _ (omega (arith, low_capped x v (sym e ∙ q))) }

      pub grown_low : x * 10 + digit ≤ top → Grown top old b (Some (x * 10 + digit))
      grown_low l = record {
        grows = λ v q.
            let is = (low_capped x v (sym e ∙ q)).0 in
            rw (← is, ← d) (capped_low _ l);
      }

-- ---- read from a text

-- where the digits before i are read: what they make, and that the others behind it make the whole
pub record Begun (top : ℕ) (text : List ℕ) (i : ℕ) (value : Option ℕ) : Type 0 where
  pub so_far : ℕ
  pub value_is : value ≡ capped top so_far
  pub ends : digit_count text ≡ i + digit_count (drop i text)
  pub makes : value_from 0 text ≡ value_from so_far (drop i text)

module _ (top : ℕ) (text : List ℕ) where
  pub begun_first : Begun top text 0 (Some 0)
  begun_first = record { so_far = 0; value_is = capped_low top 0 (omega arith); ends = omega arith; makes = refl }

  module _ (i : ℕ) (value : Option ℕ) (h : Begun top text i value) where
    module _ (l : i < length text) where
      next : drop i text ≡ get_or text i 0 ∷ drop (i + 1) text
      next = drop-cons text i 0 l ∙ rw add-one

      pub begun_more : is_digit (get_or text i 0) ≡ true → (new : Option ℕ) → Grown top value (get_or text i 0) new → Begun top text (i + 1) new
      begun_more d new g = record {
        so_far = h.so_far * 10 + (get_or text i 0 - 48);
        value_is = g.grows h.so_far h.value_is;
        ends = omega (arith, h.ends, ap digit_count next, count_more (get_or text i 0) (drop (i + 1) text) d);
        makes = h.makes ∙ ap (value_from h.so_far) next ∙ value_more (get_or text i 0) (drop (i + 1) text) h.so_far d;
      }

    ended : digit_count (drop i text) ≡ 0 → value_from h.so_far (drop i text) ≡ h.so_far
        → record { end = i; value = value } ≡ number_in top text
    unfolding number_in
    ended e f =
        let end_is : i ≡ digit_count text = omega (arith, h.ends) in
        let sum_is : h.so_far ≡ value_from 0 text = sym (h.makes ∙ f) in
        cc h.value_is

    pub begun_stop : i < length text → is_digit (get_or text i 0) ≡ false → record { end = i; value = value } ≡ number_in top text
    begun_stop l d =
        ended (ap digit_count (next l) ∙ count_none (get_or text i 0) (drop (i + 1) text) d)
        (ap (value_from h.so_far) (next l) ∙ value_none (get_or text i 0) (drop (i + 1) text) h.so_far d)

    pub begun_last : i ≡ length text → record { end = length text; value = value } ≡ number_in top text
    unfolding digit_count value_from
    begun_last e =
        let none : drop i text ≡ [] = drop_of_length-le text (omega arith) in
        rw (← e) (ended (ap digit_count none) (ap (value_from h.so_far) none))
