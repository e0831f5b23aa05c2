-- Doubling an element without a table: twice the number, and where that reaches 2 ^ m, twice what is above half of it with the modulus added.
use mathlib.Core.Path.{◌≡◌, sym, ap, ap₂, ◌∙◌}
use mathlib.Core.Logic.{inl, inr}
use Prim.Native.Nat.{ℕ, ◌+◌, ◌*◌, ◌-◌, ◌/◌, ◌%◌, ◌^◌, ◌<◌, ◌≤◌}
use native.Mathlib.Nat.{zero-mul, one-mul, div-eq_of_lt, div-eq_of_lt-le, mod-eq_of_lt}
use native.Mathlib.Omega.{arith}
use lib.Bits.{xor_shifted}
use lib.Pow.{split}
use Rattle.defs.specs.Field.{Width, add, modulus, times2}
use Rattle.theory.proofs.Field as F
use Rattle.field.specs.Arithmetic.{Element}

pub twice_low : (m a : ℕ) → a * 2 < 2 ^ m → Element m (times2 m a) (a * 2)
unfolding times2
twice_low m a h = record {
  is = sym (simp (div-eq_of_lt h, zero-mul, F.add_0, mod-eq_of_lt h));
  small = h;
}

-- the modulus has bit m, and no higher one
top : (m : ℕ) → Width m → modulus m / 2 ^ m ≡ 1
unfolding modulus
top m (inl e) = rw e
top m (inr (inl e)) = rw e
top m (inr (inr e)) = rw e

reduced : (m a : ℕ) → Width m → a < 2 ^ m → 2 ^ m ≤ a * 2 → add (a * 2) (modulus m) ≡ times2 m a
unfolding times2
reduced m a w h l =
    low ∙ ap (λ (x : ℕ). add (a * 2) x % 2 ^ m)
    (sym (ap (λ (x : ℕ). x % 2 * modulus m) one ∙ one-mul (modulus m)))
  where
    one : a * 2 / 2 ^ m ≡ 1
    one = div-eq_of_lt-le (2 ^ m) (omega arith) (omega arith)

    none : add (a * 2) (modulus m) / 2 ^ m ≡ 0
    none = F.add_div m (a * 2) (modulus m) ∙ ap₂ add one (top m w) ∙ F.add_self 1

    low : add (a * 2) (modulus m) ≡ add (a * 2) (modulus m) % 2 ^ m
    low =
        sym (split (add (a * 2) (modulus m)) m)
        ∙ ap (λ (x : ℕ). x * 2 ^ m + add (a * 2) (modulus m) % 2 ^ m) none ∙ omega arith

-- the modulus, its top bit apart
pub rest_8 : (m : ℕ) → m ≡ 8 → modulus m ≡ add (2 ^ m) 29
unfolding modulus add
rest_8 m e = rw e

pub rest_small : (m : ℕ) → Width m → (m ≡ 8 → ⊥) → modulus m ≡ add (2 ^ m) 3
unfolding modulus add
rest_small m (inl e) n = rw e
rest_small m (inr (inl e)) n = rw e
rest_small m (inr (inr e)) n = absurd (n e)

pub doubled_low : (m x : ℕ) {h : ℕ} → h * 2 ≡ 2 ^ m → x < h → Element m (times2 m x) (x + x)
doubled_low m x e l =
    let two : x + x ≡ x * 2 = omega arith in
    rw two (twice_low m x (omega arith))

top_bit : (m y : ℕ) → y < 2 ^ m → add (2 ^ m) y ≡ 2 ^ m + y
unfolding add
top_bit m y h = rw one-mul at (xor_shifted 1 m y h)

pub doubled_high : (m x r : ℕ) {h : ℕ} → Width m → h * 2 ≡ 2 ^ m → h ≤ x → x < 2 ^ m → modulus m ≡ add (2 ^ m) r
    → Element m (times2 m x) (add (x - h + (x - h)) r)
doubled_high m x r {h} W e l s q = record { is = same ∙ reduced m x W s (omega arith); small = rw (same ∙ reduced m x W s (omega arith)) (F.times2_lt m x) }
  where
    y : ℕ
    y = x - h + (x - h)

    cancels : (a b c : ℕ) → add (add a b) (add a c) ≡ add b c
    cancels a b c = simp F.sums

    shifted : add (2 ^ m) y ≡ x * 2
    shifted = top_bit m y (omega arith) ∙ omega arith

    same : add y r ≡ add (x * 2) (modulus m)
    same = sym (ap₂ add (sym shifted) q ∙ cancels (2 ^ m) y r)
