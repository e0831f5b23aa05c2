-- The check of a field, a depth and the length of a row: its ways out, and what it says in plain facts, both ways.
use Prim.Native.Nat.{ℕ, ◌%◌, ◌^◌, ◌<◌, ◌≤◌}
use mathlib.Core.Bool.{true, false, ◌||◌, not}
use mathlib.Core.Path.{◌≡◌, refl}
use native.Mathlib.Omega.{arith}
use lib.Dec.{eqb, ltb}
use borrow.Author.Tests.{eqb-true, eqb-false, eq-eqb, ne_eqb, ltb-false, le-ltb, not-false}
use Rattle.defs.specs.Field.{Width}
use Rattle.defs.specs.Refusal.{refuse, fine}
use Rattle.defs.specs.Limits.{is_width, deepest, longest}
use Rattle.defs.specs.Encode.{distance_verdict}
use Rattle.defs.specs.Levels.{shape_verdict}
use Rattle.defs.specs.declared.Refusal.TheVariants.{Field}
use Rattle.theory.proofs.Limits.{width_known, width_is}
use Rattle.theory.proofs.Verdict.{or_false, refuse_fine}
use Rattle.levels.specs.Base.{Base}
use Rattle.levels.proofs.Words.{base_of}
use Rattle.std.proofs.Common.{Err}

module _ (m r n : ℕ) where
  pub shape_field : is_width m ≡ false → shape_verdict m r n ≡ Err Field
  unfolding shape_verdict refuse
  shape_field e = rw e

  pub shape_rest : is_width m ≡ true → shape_verdict m r n ≡ distance_verdict r n n
  unfolding shape_verdict refuse
  shape_rest e = rw e

-- a row of n symbols and its depth
pub record Shape (m r n : ℕ) : Type 0 where
  pub width : Width m
  pub r_pos : 0 < r
  pub r_top : r ≤ deepest
  pub n_pos : 0 < n
  pub n_top : n ≤ longest
  pub whole : n % r ≡ 0

module _ (m r n : ℕ) where
  pub shape_known : shape_verdict m r n ≡ fine → Shape m r n
  unfolding shape_verdict distance_verdict
  shape_known e =
      let e1 = refuse_fine _ _ _ e in
      let e2 = refuse_fine _ _ _ e1.1 in
      let e3 = refuse_fine _ _ _ e2.1 in
      let r0 = or_false (eqb r 0) (ltb deepest r) e2.0 in
      let n0 = or_false (not (eqb n n)) (eqb n 0 || (ltb longest n || not (eqb (n % r) 0))) e3.0 in
      let n1 = or_false (eqb n 0) (ltb longest n || not (eqb (n % r) 0)) n0.1 in
      let n2 = or_false (ltb longest n) (not (eqb (n % r) 0)) n1.1 in
      record {
        width = width_known m (not-false _ e1.0);
        r_pos = omega (arith, eqb-false r 0 r0.0);
        r_top = ltb-false deepest r r0.1;
        n_pos = omega (arith, eqb-false n 0 n1.0);
        n_top = ltb-false longest n n2.0;
        whole = eqb-true (n % r) 0 (not-false _ n2.1);
      }

  pub shape_fine : Shape m r n → shape_verdict m r n ≡ fine
  unfolding shape_verdict distance_verdict refuse
  shape_fine s =
      rw (
        width_is m s.width,
        ne_eqb r 0 (omega (arith, s.r_pos)),
        le-ltb deepest r s.r_top,
        eq-eqb n n refl,
        ne_eqb n 0 (omega (arith, s.n_pos)),
        le-ltb longest n s.n_top,
        eq-eqb (n % r) 0 s.whole,
      )

  -- its levels are machine words
  pub shape_base : Shape m r n → Base (2 ^ m) r
  shape_base s = base_of m r (2 ^ m) s.width (s.r_pos, s.r_top) refl
