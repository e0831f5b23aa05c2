-- A code is inside the limits exactly where these hold as plain facts.
use Prim.Native.Nat.{ℕ, ◌*◌, ◌^◌, ◌≤◌}
use mathlib.Core.Bool.{Bool, true, false, ◌||◌}
use mathlib.Core.Path.{◌≡◌, refl}
use mathlib.Core.List.{List}
use mathlib.Core.Logic.{inl, inr}
use native.Mathlib.Nat.{mul-le-mul_right}
use native.Mathlib.Omega.{arith}
use lib.Dec.{eqb, ltb}
use lib.ListN.{length, get_or}
use borrow.Author.Tests.{ltb-false, eqb-true, eqb-false, not-false, le-ltb, lt-leb, ne_eqb}
use Rattle.defs.specs.Field.{Width}
use Rattle.defs.specs.Place.{least, first_high, Symbols}
use Rattle.defs.specs.Refusal.{refuse, and_then, Verdict, fine}
use Rattle.defs.specs.Limits.{deepest, longest, is_width, numbers_verdict, first_twice, code_verdict, Within, Inside}
use Rattle.theory.specs.Limits.{Distinct, Numbers, Limits}
use Rattle.theory.proofs.Place.{least_none, least_all, none_high}
use Rattle.theory.proofs.Verdict.{or_false, refuse_fine, then_fine}
use Rattle.std.proofs.Common.{Err, Ok}

pub width_known : (m : ℕ) → is_width m ≡ true → Width m
width_known m e = two (eqb m 2) refl e
  where
    four : (b : Bool) → eqb m 4 ≡ b → b || eqb m 8 ≡ true → Width m
    four true q e = inr (inl (eqb-true m 4 q))
    four false q e = inr (inr (eqb-true m 8 e))

    two : (b : Bool) → eqb m 2 ≡ b → b || (eqb m 4 || eqb m 8) ≡ true → Width m
    two true q e = inl (eqb-true m 2 q)
    two false q e = four (eqb m 4) refl e

-- top is the longest row that is allowed
module _ (top m r k count : ℕ) (small : top ≤ longest) (e : numbers_verdict top m r k count ≡ fine) where
  numbers_told : (r * count ≤ top) × Numbers m r k count
  unfolding numbers_verdict
  numbers_told =
      let e1 = refuse_fine _ _ _ e in
      let e2 = refuse_fine _ _ _ e1.1 in
      let e3 = refuse_fine _ _ _ e2.1 in
      let e4 = refuse_fine _ _ _ e3.1 in
      let r0 = or_false (eqb r 0) (ltb deepest r) e2.0 in
      let c0 = or_false (eqb count 0) (ltb (2 ^ m) count || ltb top (r * count)) e3.0 in
      let c1 = or_false (ltb (2 ^ m) count) (ltb top (r * count)) c0.1 in
      let k0 = or_false (eqb k 0) (ltb (r * count) k) e4.0 in
      let short = ltb-false top (r * count) c1.1 in (
        short,
        record {
          width = width_known m (not-false _ e1.0);
          r_pos = omega (arith, eqb-false r 0 r0.0);
          r_top = ltb-false deepest r r0.1;
          count_pos = omega (arith, eqb-false count 0 c0.0);
          count_top = ltb-false (2 ^ m) count c1.0;
          row_top = omega (arith, short, small);
          k_pos = omega (arith, eqb-false k 0 k0.0);
          k_top = ltb-false (r * count) k k0.1;
        },
      )

  pub numbers_top : r * count ≤ top
  numbers_top = numbers_told.0

  pub numbers_known : Numbers m r k count
  numbers_known = numbers_told.1

pub count_small : {m r k count : ℕ} → Numbers m r k count → count ≤ longest
count_small {m} {r} {k} {count} s = omega (arith, mul-le-mul_right count s.r_pos)

pub none_twice : (points : List ℕ) → length points ≤ first_twice points → Distinct (length points) (λ i. get_or points i 0)
unfolding first_twice
none_twice points h i k l l' =
    eqb-false _ _ (least_all _ k (ltb-false _ _ (least_all _ (length points) h k l')) i l)

pub within_known : (top m r k : ℕ) (points : List ℕ) → top ≤ longest → Within top m r k points → Limits m r k points
unfolding code_verdict
within_known top m r k points small e =
    let e1 = then_fine _ _ e in
    let e2 = refuse_fine _ _ _ e1.1 in
    let e3 = refuse_fine _ _ _ e2.1 in
    record {
      numbers = numbers_known top m r k (length points) small e1.0;
      symbols = none_high m points (ltb-false _ _ e2.0);
      distinct = none_twice points (ltb-false _ _ e3.0);
    }

pub inside_known : (m r k : ℕ) (points : List ℕ) → Inside m r k points → Limits m r k points
inside_known m r k points e = within_known longest m r k points (omega arith) e

-- ---- and back

pub width_is : (m : ℕ) → Width m → is_width m ≡ true
width_is m (inl e) = rw e
width_is m (inr (inl e)) = rw e
width_is m (inr (inr e)) = rw e

numbers_within : (top m r k count : ℕ) → Numbers m r k count → r * count ≤ top → numbers_verdict top m r k count ≡ fine
unfolding numbers_verdict refuse
numbers_within top m r k count s short =
    rw (
      width_is m s.width,
      ne_eqb r 0 (omega arith),
      le-ltb deepest r s.r_top,
      ne_eqb count 0 (omega arith),
      le-ltb (2 ^ m) count s.count_top,
      le-ltb top (r * count) short,
      ne_eqb k 0 (omega arith),
      le-ltb (r * count) k s.k_top,
    )

pub all_low : (m : ℕ) (s : List ℕ) → Symbols m s → first_high m s ≡ length s
unfolding first_high
all_low m s h = least_none _ (length s) (λ j l. lt-leb (2 ^ m) (get_or s j 0) (h j))

all_once : (points : List ℕ) → Distinct (length points) (λ i. get_or points i 0) → first_twice points ≡ length points
unfolding first_twice
all_once points d =
    least_none _ (length points)
    (λ k l. let e : least (λ j. eqb (get_or points j 0) (get_or points k 0)) k ≡ k = least_none _ k (λ j l'. ne_eqb _ _ (d j k l' l)) in
    le-ltb _ k (omega arith))

pub limits_within : (top m r k : ℕ) (points : List ℕ) → Limits m r k points → r * length points ≤ top → Within top m r k points
unfolding code_verdict and_then refuse
limits_within top m r k points s short =
    rw (
      numbers_within top m r k (length points) s.numbers short,
      all_low m points s.symbols,
      all_once points s.distinct,
      le-ltb (length points) (length points) (omega arith),
    )

pub limits_inside : (m r k : ℕ) (points : List ℕ) → Limits m r k points → Inside m r k points
limits_inside m r k points s = limits_within longest m r k points s s.numbers.row_top

-- a shorter limit is one more check, on the numbers, before those of a code
module _ (top m r k : ℕ) (points : List ℕ) (small : top ≤ longest) where
  longer : (v rest : Verdict) → numbers_verdict top m r k (length points) ≡ v
      → and_then v rest ≡ and_then v (and_then (numbers_verdict longest m r k (length points)) rest)
  unfolding and_then
  longer (Err x) rest e = refl
  longer (Ok _) rest e =
      let n = numbers_known top m r k (length points) small e in
      rw (numbers_within longest m r k (length points) n n.row_top)

  pub code_within : code_verdict top m r k points ≡ and_then (numbers_verdict top m r k (length points)) (code_verdict longest m r k points)
  unfolding code_verdict
  code_within = longer _ _ refl
