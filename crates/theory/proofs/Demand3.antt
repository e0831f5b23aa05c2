-- The user's third demand: how deep rows of different messages agree, and what lies within the radius of one.
use Prim.Native.Nat.{ℕ, zero, suc, ◌+◌, ◌*◌, ◌-◌, ◌/◌, ◌<◌, ◌≤◌}
use mathlib.Core.Path.{◌≡◌, refl, ap, sym, ◌∙◌}
use mathlib.Core.Bool.{Bool, true, false, cond}
use mathlib.Core.List.{List}
use native.Mathlib.Nat.{mul_comm, suc-mul, add-mul, zero-mul, one-mul, le_of_eq, le-div_iff_mul-le, div-lt_iff_lt-mul, lt-mul-div-succ, mul-le-mul_right}
use native.Mathlib.Omega.{arith}
use lib.Dec.{eqb}
use lib.ListN.{length, get_or, replicate, length-replicate}
use lib.Seq.{ext_get_or}
use borrow.Author.Tests.{eqb-true}
use Rattle.defs.specs.Place.{total}
use Rattle.defs.specs.Row.{Message, row_of}
use Rattle.defs.specs.Distance.{symbol, agree_at, damage, distance, radius, Near}
use Rattle.defs.specs.Limits.{Inside}
use Rattle.theory.specs.Limits.{Limits}
use Rattle.theory.specs.Vanish.{Same}
use Rattle.theory.specs.Demand3.{whole_chunks, damaged_chunks, Closest}
use Rattle.theory.proofs.Place.{total_const, zeros_zero, zeros_symbols}
use Rattle.theory.proofs.Limits.{inside_known}
use Rattle.theory.proofs.Multiply.{deg_length}
use Rattle.theory.proofs.Differ.{agree_less, unique, sharp}
use Rattle.theory.proofs.Row.{row_distance, row_agreement}

-- ---- numbers of chunks, times the depth of a chunk

total_times_le : (n c : ℕ) (F G : ℕ → ℕ) → ((i : ℕ) → F i * c ≤ G i) → total n F * c ≤ total n G
unfolding total
total_times_le zero c F G l = omega (arith, zero-mul c)
total_times_le (suc n) c F G l = omega (arith, add-mul (total n F) (F n) c, total_times_le n c F G l, l n)

total_le_times : (n c : ℕ) (F G : ℕ → ℕ) → ((i : ℕ) → F i ≤ G i * c) → total n F ≤ total n G * c
unfolding total
total_le_times zero c F G l = omega arith
total_le_times (suc n) c F G l = omega (arith, add-mul (total n G) (G n) c, total_le_times n c F G l, l n)

whole_depth : (r count : ℕ) (u w : List ℕ) → whole_chunks r count u w * r ≤ total count (agree_at r u w)
unfolding whole_chunks
whole_depth r count u w = total_times_le count r _ _ (λ i. go i (eqb (agree_at r u w i) r) refl)
  where
    go : (i : ℕ) (b : Bool) → eqb (agree_at r u w i) r ≡ b → cond b 1 0 * r ≤ agree_at r u w i
    go i true e = omega (arith, one-mul r, eqb-true (agree_at r u w i) r e)
    go i false e = omega (arith, zero-mul r)

damage_depth : (r count : ℕ) (u w : List ℕ) → distance r count u w ≤ damaged_chunks r count u w * r
unfolding distance damaged_chunks damage
damage_depth r count u w = total_le_times count r _ _ (λ i. go i (eqb (damage r u w i) 0) refl)
  where
    go : (i : ℕ) (b : Bool) → eqb (damage r u w i) 0 ≡ b → damage r u w i ≤ cond b 0 1 * r
    go i true e = omega (arith, zero-mul r, eqb-true (damage r u w i) 0 e)
    go i false e = omega (arith, one-mul r)

module _ (m r k : ℕ) (points : List ℕ) (inside : Inside m r k points) where
  limits : Limits m r k points
  limits = inside_known m r k points inside

  abbrev P : ℕ → ℕ
  P i = get_or points i 0

  abbrev depth : ℕ → ℕ
  depth i = r

  same_list : (f g : List ℕ) → Message m k f → Message m k g → Same f g → f ≡ g
  same_list f g p q e = ext_get_or 0 f g (p.size ∙ sym q.size) (λ i l. e i)

  -- a. rows of two different messages agree to a total depth of at most k - 1
  pub rows_differ : (f g : List ℕ) → Message m k f → Message m k g → (f ≡ g → ⊥)
      → total (length points) (agree_at r (row_of m r points f) (row_of m r points g)) < k
  rows_differ f g p q differ =
      rw (row_agreement m r points f p.symbols g q.symbols)
      (agree_less m limits.numbers.width P depth (length points) limits.symbols limits.distinct k f g p.symbols q.symbols
      (deg_length k f (le_of_eq p.size)) (deg_length k g (le_of_eq q.size)) (λ e. differ (same_list f g p q e)))

  -- b. and so in at most floor((k - 1) / r) whole chunks
  pub whole_chunks_lem : (f g : List ℕ) → Message m k f → Message m k g → (f ≡ g → ⊥) → whole_chunks r (length points) (row_of m r points f) (row_of m r points g) ≤ (k - 1) / r
  whole_chunks_lem f g p q differ =
      (le-div_iff_mul-le {k = r} limits.numbers.r_pos).1
      (omega (arith, whole_depth r (length points) (row_of m r points f) (row_of m r points g), rows_differ f g p q differ))

  -- c. the bound of a is attained: by the product of k - 1 factors x - P_i, as many of each as a chunk is deep, and the zero message
  pub attained : Closest m r k points
  attained =
      let fits : k - 1 ≤ total (length points) depth = omega (arith, total_const (length points) r, limits.numbers.k_top) in
      let (f, o, monic, exactly) = sharp m limits.numbers.width P depth (length points) limits.symbols limits.distinct (k - 1) fits in
      record {
        f = f;
        g = replicate k 0;
        message_f = record { size = omega (arith, monic.size, limits.numbers.k_pos); symbols = o };
        message_g = record { size = length-replicate k 0; symbols = zeros_symbols m k };
        differ = λ e. omega (arith, monic.top, ap (λ (s : List ℕ). get_or s (k - 1) 0) e, zeros_zero k (k - 1));
        exactly = row_agreement m r points f o (replicate k 0) (zeros_symbols m k) ∙ exactly (replicate k 0) (zeros_symbols m k) (zeros_zero k);
      }

  -- d. no row lies within the radius of two different messages' rows
  pub near_unique : (w f g : List ℕ) → Near m r k points w f → Near m r k points w g → f ≡ g
  unfolding radius
  near_unique w f g p q =
      same_list f g p.message q.message
      (unique m limits.numbers.width P depth (length points) limits.symbols limits.distinct k f g
      p.message.symbols q.message.symbols
      (deg_length k f (le_of_eq p.message.size)) (deg_length k g (le_of_eq q.message.size)) (symbol r w)
      (omega (
        arith,
        row_distance m r points f p.message.symbols w,
        row_distance m r points g q.message.symbols w,
        p.within,
        q.within,
        total_const (length points) r,
        limits.numbers.k_top,
      )))

  -- the chunks that a message fills
  abbrev filled : ℕ
  filled = (k + r - 1) / r

  filled_enough : k ≤ filled * r
  filled_enough = omega (arith, lt-mul-div-succ (k + r - 1) limits.numbers.r_pos, mul_comm r filled)

  filled_fits : filled < suc (length points)
  filled_fits =
      (div-lt_iff_lt-mul {k = r} limits.numbers.r_pos).1
      (omega (arith, suc-mul (length points) r, mul_comm (length points) r, limits.numbers.r_pos, limits.numbers.k_top))

  whole_radius : (e : ℕ) → e ≤ (length points - filled) / 2 → e * r ≤ radius (r * length points) k
  unfolding radius
  whole_radius e l =
      let le : (e + e + filled) * r ≤ length points * r = mul-le-mul_right r (omega (arith, filled_fits)) in
      omega (arith, filled_enough, le, add-mul (e + e) filled r, add-mul e e r, mul_comm (length points) r)

  -- e. a row that differs from a message's row only within floor((n' - ceil(k / r)) / 2) chunks lies within the radius of that message.
  --    It need not even be a row of field symbols
  pub chunks_near : (w f : List ℕ) → Message m k f
      → damaged_chunks r (length points) (row_of m r points f) w ≤ (length points - (k + r - 1) / r) / 2 → Near m r k points w f
  chunks_near w f p l =
      record {
        message = p;
        within = omega (arith, damage_depth r (length points) (row_of m r points f) w, whole_radius _ l);
      }
