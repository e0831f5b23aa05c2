-- The agreement of two chunks is the longest front on which they are equal; it is symmetric, and no less than the lesser of those with a third.
use Prim.Native.Nat.{ℕ, ◌<◌, ◌≤◌, min}
use mathlib.Core.Path.{◌≡◌, sym, ◌∙◌}
use mathlib.Core.Bool.{not}
use native.Mathlib.Omega.{arith}
use lib.Dec.{eqb}
use borrow.Author.Tests.{not-false, eqb-true, eq-eqb}
use Rattle.defs.specs.Distance.{agree}
use Rattle.theory.proofs.Place.{least_le, least_before, least_max}

pub agree_le : (r : ℕ) (u v : ℕ → ℕ) → agree r u v ≤ r
unfolding agree
agree_le r u v = least_le _ r

-- below the agreement the two are equal
pub agree_eq : (r : ℕ) (u v : ℕ → ℕ) (j : ℕ) → j < agree r u v → u j ≡ v j
unfolding agree
agree_eq r u v j l = eqb-true _ _ (not-false _ (least_before (λ i. not (eqb (u i) (v i))) r j l))

-- and it is the greatest such number up to r
pub agree_max : (r s : ℕ) (u v : ℕ → ℕ) → s ≤ r → ((j : ℕ) → j < s → u j ≡ v j) → s ≤ agree r u v
unfolding agree
agree_max r s u v l e = least_max _ r s l (λ j l'. rw (eq-eqb (u j) (v j) (e j l')))

half_sym : (r : ℕ) (u v : ℕ → ℕ) → agree r u v ≤ agree r v u
half_sym r u v = agree_max r _ v u (agree_le r u v) (λ j l. sym (agree_eq r u v j l))

pub agree_sym : (r : ℕ) (u v : ℕ → ℕ) → agree r u v ≡ agree r v u
agree_sym r u v = omega (arith, half_sym r u v, half_sym r v u)

pub agree_min : (r : ℕ) (u v w : ℕ → ℕ) → min (agree r u v) (agree r v w) ≤ agree r u w
agree_min r u v w =
    agree_max r _ u w (omega (arith, agree_le r u v))
    (λ j l. agree_eq r u v j (omega arith) ∙ agree_eq r v w j (omega arith))

half_ext : (r : ℕ) (u u' v v' : ℕ → ℕ) → ((j : ℕ) → j < r → u j ≡ u' j) → ((j : ℕ) → j < r → v j ≡ v' j) → agree r u v ≤ agree r u' v'
half_ext r u u' v v' e e' =
    agree_max r _ u' v' (agree_le r u v)
    (λ j l. let l' : j < r = omega (arith, agree_le r u v) in sym (e j l') ∙ agree_eq r u v j l ∙ e' j l')

-- only the first r symbols count
pub agree_ext : (r : ℕ) (u u' v v' : ℕ → ℕ) → ((j : ℕ) → j < r → u j ≡ u' j) → ((j : ℕ) → j < r → v j ≡ v' j) → agree r u v ≡ agree r u' v'
agree_ext r u u' v v' e e' =
    omega (arith, half_ext r u u' v v' e e', half_ext r u' u v' v (λ j l. sym (e j l)) (λ j l. sym (e' j l)))
