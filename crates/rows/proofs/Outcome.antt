-- The ways out of the calls encode and distance, in their order.
use Prim.Native.Nat.{ℕ, ◌+◌, ◌*◌, ◌/◌, ◌%◌, ◌<◌}
use mathlib.Core.Bool.{false, ◌||◌, not}
use mathlib.Core.Path.{◌≡◌, refl, sym, ◌∙◌}
use mathlib.Core.List.{List}
use native.Mathlib.Nat.{div-add-mod', mul-le-mul_left}
use native.Mathlib.Omega.{arith}
use lib.Dec.{eqb, ltb}
use lib.ListN.{length}
use borrow.Author.Tests.{eq-eqb, ne_eqb, eqb-true, eqb-false, ltb-false, not-false}
use Rattle.defs.specs.Row.{row_of}
use Rattle.defs.specs.Refusal.{refuse, and_then, answer, kept, fine}
use Rattle.defs.specs.Limits.{deepest, longest, code_verdict, Inside}
use Rattle.defs.specs.Encode.{symbols_verdict, encode_verdict, Encoded, distance_verdict}
use Rattle.defs.specs.declared.Refusal.{Refusal}
use Rattle.defs.specs.declared.Refusal.TheVariants.{Length}
use Rattle.defs.specs.declared.Code.{Code}
use Rattle.theory.proofs.Place.{none_high}
use Rattle.theory.proofs.Verdict.{or_false, refuse_fine}
use Rattle.code.specs.Checked.{points_of, CodeOf}
use Rattle.code.proofs.Outcome.{points_are}
use Rattle.rows.specs.Chunk.{Rows, Writable}
use Rattle.std.proofs.Common.{Err, Ok}

-- ---- distance

module _ (r : ℕ) (u w : List ℕ) (e : distance_verdict r (length u) (length w) ≡ fine) where
  -- the two tests have failed
  tests : (eqb r 0 || ltb deepest r ≡ false)
      × (not (eqb (length u) (length w)) || (eqb (length u) 0 || (ltb longest (length u) || not (eqb (length u % r) 0))) ≡ false)
  unfolding distance_verdict
  tests = let e1 = refuse_fine _ _ _ e in (e1.0, (refuse_fine _ _ _ e1.1).0)

  pub depth_pos : 0 < r
  depth_pos = omega (arith, eqb-false r 0 (or_false (eqb r 0) (ltb deepest r) tests.0).0)

  pub distance_rows : Rows r (length u / r) u w
  distance_rows =
      let n = length u in
      let l1 = or_false (not (eqb n (length w))) (eqb n 0 || (ltb longest n || not (eqb (n % r) 0))) tests.1 in
      let l2 = or_false (eqb n 0) (ltb longest n || not (eqb (n % r) 0)) l1.1 in
      let l3 = or_false (ltb longest n) (not (eqb (n % r) 0)) l2.1 in
      let same : n ≡ length w = eqb-true n (length w) (not-false _ l1.0) in
      let whole : n % r ≡ 0 = eqb-true (n % r) 0 (not-false _ l3.1) in
      let parts : n / r * r + n % r ≡ n = div-add-mod' n r in
      record {
        depth = ltb-false deepest r (or_false (eqb r 0) (ltb deepest r) tests.0).1;
        few = omega (arith, ltb-false longest n l3.0, mul-le-mul_left (n / r) depth_pos);
        left = omega arith;
        right = omega arith;
      }

-- ---- encode

module _ (m r k : ℕ) (points message row : List ℕ) where
  pub encode_refused : (x : Refusal) → code_verdict longest m r k points ≡ Err x → Encoded m r k points message row (Err x) row
  unfolding encode_verdict and_then answer kept
  encode_refused x e = record { answers = rw e; leaves = rw e }

  module _ (inside : Inside m r k points) where
    pub encode_message : (length message ≡ k → ⊥) → Encoded m r k points message row (Err Length) row
    unfolding encode_verdict and_then refuse answer kept
    encode_message t = record { answers = rw (inside, ne_eqb (length message) k t); leaves = rw (inside, ne_eqb (length message) k t) }

    module _ (t1 : length message ≡ k) where
      pub encode_row : (length row ≡ r * length points → ⊥) → Encoded m r k points message row (Err Length) row
      unfolding encode_verdict and_then refuse answer kept
      encode_row t = record {
        answers = rw (inside, eq-eqb (length message) k t1, ne_eqb (length row) (r * length points) t);
        leaves = rw (inside, eq-eqb (length message) k t1, ne_eqb (length row) (r * length points) t);
      }

      module _ (t2 : length row ≡ r * length points) where
        passed : encode_verdict m r k points message (length row) ≡ symbols_verdict m message
        unfolding encode_verdict and_then refuse
        passed = rw (inside, eq-eqb (length message) k t1, eq-eqb (length row) (r * length points) t2)

        pub encode_symbol : (x : Refusal) → symbols_verdict m message ≡ Err x → Encoded m r k points message row (Err x) row
        unfolding answer kept
        encode_symbol x e = record { answers = rw (passed, e); leaves = rw (passed, e) }

        pub encode_done : symbols_verdict m message ≡ fine → (row' : List ℕ) → row' ≡ row_of m r points message → Encoded m r k points message row (Ok 0) row'
        unfolding answer kept
        encode_done e row' f = record { answers = rw (passed, e); leaves = rw (passed, e) f }

-- ---- the checked code serves for m, r, k and the points

module _ (m r k : ℕ) (points message : List ℕ) (c : Code) (o : CodeOf m r k points c) where
  pub writable : (row : List ℕ) → length message ≡ k → length row ≡ r * length points → symbols_verdict m message ≡ fine → Writable c message row
  unfolding symbols_verdict
  writable row e f s = record {
    message = record {
      size = e ∙ sym o.k_is;
      symbols = rw o.m_is (none_high m message (ltb-false _ _ (refuse_fine _ _ _ s).0));
    };
    room = rw (o.r_is, o.count_is) f;
  }

  pub same_row : row_of c.m c.r (points_of c) message ≡ row_of m r points message
  same_row = rw (o.m_is, o.r_is, points_are m r k points c o) refl
