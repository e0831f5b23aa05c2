-- Laws of verdicts: what a chain of checks that is fine says of each, what a refused or a done answer says of its verdict, and what
-- holds of every refusal that a chain of checks may end in.
use Prim.Native.Nat.{ℕ, ◌<◌}
use mathlib.Core.Bool.{Bool, true, false, ◌||◌, not}
use mathlib.Core.Path.{◌≡◌, refl}
use mathlib.Core.List.{List}
use native.Mathlib.Omega.{arith}
use lib.Dec.{eqb, ltb}
use borrow.Author.Tests.{ltb-true, eqb-true, not-false}
use Rattle.defs.specs.Refusal.{refuse, and_then, answer, kept, Verdict, fine}
use Rattle.defs.specs.declared.Refusal.{Refusal}
use Rattle.std.proofs.Common.{Err, Ok}

-- two different constructors are told apart by `apart cc`
pub apart : ◌≡◌ {A = ℕ} 0 1 → ⊥
apart e = omega arith

pub or_false : (a b : Bool) → a || b ≡ false → (a ≡ false) × (b ≡ false)
or_false true b e = absurd (apart cc)
or_false false b e = (refl, e)

pub refuse_fine : (b : Bool) (x : Refusal) (v : Verdict) → refuse b x v ≡ fine → (b ≡ false) × (v ≡ fine)
unfolding refuse
refuse_fine true x v e = absurd (apart cc)
refuse_fine false x v e = (refl, e)

pub then_fine : (v v' : Verdict) → and_then v v' ≡ fine → (v ≡ fine) × (v' ≡ fine)
unfolding and_then
then_fine (Ok _) v' e = (refl, e)
then_fine (Err x) v' e = absurd (apart cc)

pub answer_done : (v : Verdict) (d d' : ℕ) → answer v d ≡ Ok d' → v ≡ fine
unfolding answer
answer_done (Ok _) d d' e = refl
answer_done (Err x) d d' e = absurd (apart cc)

pub answer_refused : (v : Verdict) (d : ℕ) (x : Refusal) → answer v d ≡ Err x → v ≡ Err x
unfolding answer
answer_refused (Ok _) d x e = absurd (apart cc)
answer_refused (Err y) d x e = cc

-- a refusal changes no buffer
pub kept_refused : (v : Verdict) (d : ℕ) (x : Refusal) (new old : List ℕ) → answer v d ≡ Err x → kept v new old ≡ old
unfolding answer kept
kept_refused (Ok _) d x new old e = absurd (apart cc)
kept_refused (Err y) d x new old e = refl

-- ---- what holds of every refusal that a verdict may be

pub record Every (P : Refusal → Type 0) (v : Verdict) : Type 0 where
  pub of : (x : Refusal) → v ≡ Err x → P x

module _ {P : Refusal → Type 0} where
  pub every_fine : Every P fine
  every_fine = record { of = λ x e. absurd (apart cc) }

  every_refused : (x : Refusal) → P x → Every P (Err x)
  every_refused x h = record { of = λ y e. let q : x ≡ y = cc in rw q at h }

  -- each side knows how its test came out
  pub every_refuse : (b : Bool) (x : Refusal) (v : Verdict) → (b ≡ true → P x) → (b ≡ false → Every P v) → Every P (refuse b x v)
  unfolding refuse
  every_refuse true x v h rest = every_refused x (h refl)
  every_refuse false x v h rest = rest refl

  pub every_then : (u v : Verdict) → Every P u → (u ≡ fine → Every P v) → Every P (and_then u v)
  unfolding and_then
  every_then (Ok _) v h rest = rest refl
  every_then (Err x) v h rest = h

  -- the shapes that tests have: any; a place i below n; a length that is not as it must be
  pub every_plain : (b : Bool) (x : Refusal) (v : Verdict) → P x → Every P v → Every P (refuse b x v)
  every_plain b x v h rest = every_refuse b x v (λ t. h) (λ t. rest)

  pub every_place : (i n : ℕ) (x : Refusal) (v : Verdict) → (i < n → P x) → Every P v → Every P (refuse (ltb i n) x v)
  every_place i n x v h rest = every_refuse _ x v (λ t. h (ltb-true i n t)) (λ t. rest)

  pub every_length : (n n' : ℕ) (x : Refusal) (v : Verdict) → P x → (n ≡ n' → Every P v) → Every P (refuse (not (eqb n n')) x v)
  every_length n n' x v h rest = every_refuse _ x v (λ t. h) (λ t. rest (eqb-true n n' (not-false _ t)))
