-- The tables of powers and logarithms as the loops make them, and products looked up in them.
use Prim.Native.Nat.{ℕ, ◌+◌, ◌-◌, ◌^◌, ◌<◌, ◌≤◌}
use mathlib.Core.Path.{◌≡◌, refl, ap, sym, subst, ◌∙◌}
use mathlib.Core.Logic.{inl, inr}
use mathlib.Core.List.{List}
use native.Nat.{ℕᴺ_discrete}
use native.Mathlib.Nat.{lt_of_lt_of_le}
use native.Mathlib.Numerals.{add-one}
use native.Mathlib.Omega.{arith}
use lib.ListN.{length, get_or, set, length-set}
use lib.Seq.{get_or-set_same, get_or-set_other}
use Rattle.defs.specs.Field.{Width, mul, times2, pow}
use Rattle.theory.proofs.Field.{pow-lt, pow-add, two_mul, 0-mul}
use Rattle.theory.proofs.Generator.{one_lt, generates, inverse_power}
use Rattle.field.specs.Arithmetic.{Logarithm, Element}
use Rattle.theory.proofs.Width.{field_top}
use Rattle.rows.specs.Tables.{nowhere, LogOf, PowersOf, LogsFor}

-- ---- powers

wide : (m : ℕ) → Width m → 1 < m
wide m (inl e) = omega arith
wide m (inr (inl e)) = omega arith
wide m (inr (inr e)) = omega arith

module _ (m : ℕ) (w : Width m) where
  pub order_top : 2 ^ m - 1 ≤ 255
  order_top = omega (arith, field_top m w)

  pub first_power : Element m (pow m 2 0) 1
  unfolding pow
  first_power = record { is = refl; small = one_lt m w }

  pub next_power : (i x x' : ℕ) → Element m (pow m 2 i) x → Element m (times2 m x) x' → Element m (pow m 2 (i + 1)) x'
  unfolding pow
  next_power i x x' p e = record { is = e.is ∙ sym (two_mul m x (wide m w)) ∙ ap (mul m 2) p.is ∙ ap (pow m 2) (sym (add-one i)); small = e.small }

-- ---- logarithms

-- the powers below i have their logarithms
pub record Logged (m i : ℕ) (table : List ℕ) : Type 0 where
  pub size : length table ≡ 256
  pub none : get_or table 0 0 ≡ nowhere
  pub at : (c : ℕ) → c < i → Logarithm m (pow m 2 c) (get_or table (pow m 2 c) 0)

module _ (m : ℕ) (w : Width m) where
  not_zero : (i : ℕ) → i < 2 ^ m - 1 → pow m 2 i ≡ 0 → ⊥
  not_zero i l e = omega (arith, sym (inverse_power m w i l) ∙ ap (λ (x : ℕ). mul m x (pow m 2 (2 ^ m - 1 - i))) e ∙ 0-mul m _)

  power_byte : (i : ℕ) → pow m 2 i < 256
  power_byte i = lt_of_lt_of_le (pow-lt m 2 i (one_lt m w)) (field_top m w)

  pub logs_more : (i x : ℕ) (table : List ℕ) → Logged m i table → i < 2 ^ m - 1 → x ≡ pow m 2 i → Logged m (i + 1) (set table x i)
  logs_more i x table g l e = record {
    size = length-set table x i ∙ g.size;
    none = get_or-set_other table x 0 i 0 (λ q. not_zero i l (sym (q ∙ e))) ∙ g.none;
    at = λ c h. logged c h (ℕᴺ_discrete (pow m 2 c) x);
  }
    where
      logged : (c : ℕ) → c < i + 1 → Dec (pow m 2 c ≡ x) → Logarithm m (pow m 2 c) (get_or (set table x i) (pow m 2 c) 0)
      logged c h (yes q) =
          let here : get_or (set table x i) (pow m 2 c) 0 ≡ i = ap (λ (y : ℕ). get_or (set table x i) y 0) q ∙ get_or-set_same table x i 0 (omega (arith, g.size, e, power_byte i)) in
          record { power = ap (pow m 2) here ∙ sym e ∙ sym q; below = omega (arith, here) }
      logged c h (no q) =
          subst (Logarithm m (pow m 2 c)) (sym (get_or-set_other table x (pow m 2 c) i 0 q)) (g.at c (omega (arith, other)))
        where
          other : c ≡ i → ⊥
          other z = q (ap (pow m 2) z ∙ sym e)

  pub logs_last : (i : ℕ) (table : List ℕ) → Logged m i table → i ≡ 2 ^ m - 1 → LogsFor m table
  logs_last i table g l = record { at = λ a h. record { none = λ e. ap (λ (x : ℕ). get_or table x 0) e ∙ g.none; some = found a h } }
    where
      found : (a : ℕ) → a < 2 ^ m → (a ≡ 0 → ⊥) → Logarithm m a (get_or table a 0)
      found a h n = let c = generates m w a h n in subst (λ (x : ℕ). Logarithm m x (get_or table x 0)) c.2 (g.at c.0 (omega (arith, c.1)))

-- ---- look-up

module _ (m : ℕ) (w : Width m) (a l e : ℕ) (h : LogOf m a l) (b : e ≤ 2 ^ m - 1) where
  pub look_up : (powers : List ℕ) → PowersOf m powers → get_or powers (l + e) 0 ≡ mul m a (pow m 2 e)
  look_up powers p = go (ℕᴺ_discrete a 0)
    where
      go : Dec (a ≡ 0) → get_or powers (l + e) 0 ≡ mul m a (pow m 2 e)
      go (yes z) = p.zeros (l + e) (omega (arith, h.none z)) ∙ sym (ap (λ (x : ℕ). mul m x (pow m 2 e)) z ∙ 0-mul m (pow m 2 e))
      go (no z) =
          p.at (l + e) (omega (arith, (h.some z).below)) ∙ pow-add m 2 l e (one_lt m w)
          ∙ ap (λ (x : ℕ). mul m x (pow m 2 e)) (h.some z).power
