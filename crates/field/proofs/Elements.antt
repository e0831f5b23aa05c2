-- What products, inverses and powers come to, by the powers of 2.
use mathlib.Core.Path.{◌≡◌, sym, ap, ap₂, ◌∙◌}
use mathlib.Core.List.{List}
use Prim.Native.Nat.{ℕ, ◌+◌, ◌*◌, ◌-◌, ◌^◌, ◌<◌}
use lib.ListN.{get_or}
use lib.Pow.{pow_pos}
use Rattle.defs.specs.Field.{Width, mul, pow}
use Rattle.theory.proofs.Field as F
use Rattle.theory.proofs.Generator.{one_lt, inverse_power}
use Rattle.field.specs.Arithmetic.{Element, Inverse, Powers, Logarithm}

pub power_in : (m : ℕ) → Width m → {table : List ℕ} → Powers m table
    → (i : ℕ) → i < 2 * (2 ^ m - 1) → Element m (pow m 2 i) (get_or table i 0)
power_in m w p i h = record { is = p.at i h; small = rw (p.at i h) (F.pow-lt m 2 i (one_lt m w)) }

pub zero_l : (m a b : ℕ) → a ≡ 0 → Element m (mul m a b) 0
zero_l m a b e = record { is = sym (ap (λ (x : ℕ). mul m x b) e ∙ F.0-mul m b); small = pow_pos m }

pub zero_r : (m a b : ℕ) → b ≡ 0 → Element m (mul m a b) 0
zero_r m a b e = record { is = sym (ap (mul m a) e ∙ F.mul_0 m a); small = pow_pos m }

module _ (m : ℕ) (w : Width m) where
  -- the product of two powers is the power of the sum
  pub product_of : {a b i j r : ℕ} → Logarithm m a i → Logarithm m b j → Element m (pow m 2 (i + j)) r
      → Element m (mul m a b) r
  product_of {i = i} {j = j} p q s =
      record { is = s.is ∙ F.pow-add m 2 i j (one_lt m w) ∙ ap₂ (mul m) p.power q.power; small = s.small }

  pub inverse_of : {a i r : ℕ} → Logarithm m a i → Element m (pow m 2 (2 ^ m - 1 - i)) r → Inverse m a r
  inverse_of {i = i} p s =
      record { unit = ap₂ (mul m) (sym p.power) s.is ∙ inverse_power m w i p.below; small = s.small }
