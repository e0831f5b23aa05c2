-- The row of products of a scalar, by doubling the part that is filled.
use mathlib.Core.Path.{◌≡◌, refl, sym, ap, ap₂, ◌∙◌, subst}
use mathlib.Core.List.{List}
use mathlib.Core.Logic.{⊎_elim}
use Prim.Native.Nat.{ℕ, suc, ◌+◌, ◌-◌, ◌^◌, ◌<◌, ◌≤◌}
use native.Mathlib.Nat.{one-mul, pow-suc}
use native.Mathlib.Numerals.{add-one}
use native.Mathlib.Omega.{arith}
use lib.Pow.{pow_pos}
use lib.Bits.{bit_xor, xor_shifted}
use lib.ListN.{length, get_or, set, length-set, replicate}
use lib.Seq.{get_or-set_same, get_or-set_other}
use Rattle.defs.specs.Field.{add, times2, mul}
use Rattle.theory.proofs.Field as F
use Rattle.theory.proofs.Order.{lt_or_le}
use Rattle.theory.proofs.Place.{zeros_zero}
use Rattle.field.specs.Arithmetic.{Element, Doubled}

-- ---- one doubling, which has copied j entries

pub next_copy : (size step j : ℕ) (old row : List ℕ) → size + size ≤ length old → j < size
    → Doubled size step j old row → Doubled size step (j + 1) old (set row (size + j) (bit_xor (get_or row j 0) step))
unfolding add
next_copy size step j old row room h d = record {
  long = length-set row (size + j) _ ∙ d.long;
  low = λ x l. other x (omega arith) ∙ d.low x l;
  high = λ x l. ⊎_elim (λ k. other (size + x) (omega arith) ∙ d.high x k) (λ k. here x (omega arith)) (lt_or_le x j);
  rest = λ x l. other x (omega arith) ∙ d.rest x (omega arith);
}
  where
    new : List ℕ
    new = set row (size + j) (bit_xor (get_or row j 0) step)

    other : (x : ℕ) → (x ≡ size + j → ⊥) → get_or new x 0 ≡ get_or row x 0
    other x n = get_or-set_other row (size + j) x (bit_xor (get_or row j 0) step) 0 n

    here : (x : ℕ) → x ≡ j → get_or new (size + x) 0 ≡ bit_xor (get_or old x 0) step
    here x e =
        rw e (get_or-set_same row (size + j) (bit_xor (get_or row j 0) step) 0 (omega (arith, d.long))
        ∙ ap (λ (y : ℕ). bit_xor y step) (d.low j h))

-- ---- the row

-- its first 2 ^ i entries are filled, and step is next
pub record Filled (m c i step : ℕ) (row : List ℕ) : Type 0 where
  pub long : length row ≡ 256
  pub at : (x : ℕ) → x < 2 ^ i → get_or row x 0 ≡ mul m c x
  pub small : (x : ℕ) → get_or row x 0 < 2 ^ m
  pub next : i < m → step ≡ mul m c (2 ^ i)
  pub small_step : step < 2 ^ m

module _ (m c : ℕ) where
  pub first_fill : c < 2 ^ m → Filled m c 0 c (replicate 256 0)
  first_fill h = record {
    long = refl;
    at = λ x l. zeros_zero 256 x ∙ sym (F.mul_0 m c) ∙ ap (mul m c) (omega arith);
    small = λ x. rw (zeros_zero 256 x) (pow_pos m);
    next = λ l. sym (F.mul_comm m c 1 ∙ F.one_mul_of_lt m c h);
    small_step = h;
  }

  -- c times a number of one bit more
  one_more : (i x : ℕ) → x < 2 ^ i → add (mul m c x) (mul m c (2 ^ i)) ≡ mul m c (2 ^ i + x)
  unfolding add
  one_more i x h =
      F.add_comm (mul m c x) (mul m c (2 ^ i)) ∙ sym (F.mul_add_r m c (2 ^ i) x)
      ∙ ap (mul m c) (subst (λ (y : ℕ). bit_xor y x ≡ y + x) (one-mul (2 ^ i)) (xor_shifted 1 i x h))

  next_step : (i step : ℕ) → suc i < m → step ≡ mul m c (2 ^ i) → times2 m step ≡ mul m c (2 ^ suc i)
  next_step i step h e =
      ap (times2 m) (e ∙ F.mul_comm m c (2 ^ i)) ∙ sym (F.mul_times2_l m (2 ^ i) c) ∙ F.mul_comm m (times2 m (2 ^ i)) c
      ∙ ap (mul m c) (F.times2_pow m i h)

  module _ {i step : ℕ} {row row' : List ℕ} (h : i < m) (f : Filled m c i step row)
      (d : Doubled (2 ^ i) step (2 ^ i) row row') where
    upper : (x : ℕ) → 2 ^ i ≤ x → get_or row' x 0 ≡ get_or row' (2 ^ i + (x - 2 ^ i)) 0
    upper x k = let e : x ≡ 2 ^ i + (x - 2 ^ i) = omega arith in ap (λ (y : ℕ). get_or row' y 0) e

    fill_at : (x : ℕ) → x < 2 ^ suc i → get_or row' x 0 ≡ mul m c x
    fill_at x l =
        ⊎_elim (λ k. d.low x k ∙ f.at x k)
        (λ k. upper x k ∙ d.high (x - 2 ^ i) (omega (arith, pow-suc 2 i))
        ∙ ap₂ add (f.at (x - 2 ^ i) (omega (arith, pow-suc 2 i))) (f.next h)
        ∙ one_more i (x - 2 ^ i) (omega (arith, pow-suc 2 i))
        ∙ ap (mul m c) (omega arith))
        (lt_or_le x (2 ^ i))

    fill_small : (x : ℕ) → get_or row' x 0 < 2 ^ m
    fill_small x =
        ⊎_elim (λ k. rw (d.low x k) (f.small x))
        (λ k. ⊎_elim
        (λ (l : x < 2 ^ i + 2 ^ i). rw (upper x k ∙ d.high (x - 2 ^ i) (omega arith))
        (F.add_lt m _ step (f.small (x - 2 ^ i)) f.small_step))
        (λ l. rw (d.rest x l) (f.small x))
        (lt_or_le x (2 ^ i + 2 ^ i)))
        (lt_or_le x (2 ^ i))

    pub next_fill : {step' : ℕ} → Element m (times2 m step) step' → Filled m c (i + 1) step' row'
    next_fill e = rw (add-one i) (record {
      long = d.long ∙ f.long;
      at = fill_at;
      small = fill_small;
      next = λ l. e.is ∙ next_step i step l (f.next h);
      small_step = e.small;
    })
