-- Of the fact that m is a width there is one proof, so that it may stand in a type.
use Rattle.std.specs.Prelude.{ℕ, ◌≡◌, ◌⊎◌}
use mathlib.Core.Path.{ap}
use mathlib.Core.Logic.{inl, inr}
use native.Mathlib.Omega.{arith}
use Rattle.std.proofs.Props.{props}
use Rattle.defs.specs.Field.{Width}

-- two facts, of which at most one holds
either-prop : {A B : Type 0} → IsProp A → IsProp B → (A → B → ⊥) → IsProp (A ⊎ B)
either-prop a b n (inl x) (inl y) = ap inl (a x y)
either-prop a b n (inl x) (inr y) = absurd (n x y)
either-prop a b n (inr x) (inl y) = absurd (n y x)
either-prop a b n (inr x) (inr y) = ap inr (b x y)

four_or_eight : (m : ℕ) → m ≡ 2 → (m ≡ 4) ⊎ (m ≡ 8) → ⊥
four_or_eight m e (inl f) = omega arith
four_or_eight m e (inr f) = omega arith

pub width-prop : (m : ℕ) → IsProp (Width m)
width-prop m =
    either-prop (Prim.hlevel props) (either-prop (Prim.hlevel props) (Prim.hlevel props) (λ e f. omega arith)) (four_or_eight m)
