-- The three widths: what is shown of each is shown of all.
use Prim.Native.Nat.{ℕ, ◌^◌, ◌<◌, ◌≤◌}
use mathlib.Core.Path.{◌≡◌, subst⁻¹}
use mathlib.Core.Logic.{inl, inr}
use lib.Dec.{lit≤, lit<}
use lib.Pow.{pow_mono}
use Rattle.defs.specs.Field.{Width}

pub by_width : (P : ℕ → Type 0) → P 2 → P 4 → P 8 → (m : ℕ) → Width m → P m
by_width P a b c m (inl e) = subst⁻¹ P e a
by_width P a b c m (inr (inl e)) = subst⁻¹ P e b
by_width P a b c m (inr (inr e)) = subst⁻¹ P e c

pub width_pos : (m : ℕ) → Width m → 0 < m
width_pos = by_width (λ m. 0 < m) (lit< tt) (lit< tt) (lit< tt)

pub width_top : (m : ℕ) → Width m → m ≤ 8
width_top = by_width (λ m. m ≤ 8) (lit≤ tt) (lit≤ tt) (lit≤ tt)

pub field_top : (m : ℕ) → Width m → 2 ^ m ≤ 256
field_top m w = pow_mono {j = 8} (width_top m w)

pub width_8 : (m : ℕ) → Width m → (m ≡ 2 → ⊥) → (m ≡ 4 → ⊥) → m ≡ 8
width_8 m (inl e) n₂ n₄ = absurd (n₂ e)
width_8 m (inr (inl e)) n₂ n₄ = absurd (n₄ e)
width_8 m (inr (inr e)) n₂ n₄ = e
