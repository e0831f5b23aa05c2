-- Logarithms of products, and of the powers of a point, written down while the coefficient 0 is added up.
use Prim.Native.Nat.{ℕ, zero, suc, ◌+◌, ◌*◌, ◌-◌, ◌/◌, ◌%◌, ◌^◌, ◌<◌}
use mathlib.Core.Path.{◌≡◌, refl, ap, ap₂, sym, ◌∙◌}
use mathlib.Core.List.{List}
use native.Nat.{ℕᴺ_discrete}
use native.Mathlib.Nat.{sub-zero, mod-lt, div-add-mod', div-lt_iff_lt-mul}
use native.Mathlib.Numerals.{add-one}
use native.Mathlib.Omega.{arith}
use lib.Bits.{bit_xor}
use lib.ListN.{length, get_or, set, length-set}
use lib.Seq.{get_or-set_same, get_or-set_other}
use lib.Pow.{pow_pos}
use Rattle.defs.specs.Field.{Width, mul, pow}
use Rattle.defs.specs.Limits.{longest}
use Rattle.theory.proofs.Field.{mul_comm, pow-lt, pow-add, one_mul_of_lt}
use Rattle.theory.proofs.Generator.{one_lt, order}
use Rattle.field.specs.Arithmetic.{Logarithm}
use Rattle.rows.specs.Tables.{ProductLog, Exponent, ExponentsOf}
use Rattle.rows.specs.declared.Terms.{Terms}
use Rattle.rows.proofs.Hasse.{Added, added_first, added_more, next_all}

-- ---- of a product

module _ (m : ℕ) (w : Width m) (a b : ℕ) (l : a < 2 ^ m) (k : b < 2 ^ m) where
  -- the order of 2 is 2 ^ m - 1, so 2 ^ m counts for 1
  brought_down : (q x : ℕ) → q < 2 → x < 2 ^ m → q * 2 ^ m + x ≡ a + b → ProductLog m a b (x + q)
  brought_down zero x h i s = record { below = omega arith; power = ap (pow m 2) (omega arith) }
  brought_down (suc zero) x h i s = record {
    below = omega arith;
    power =
        let s' : 2 ^ m - 1 + (x + 1) ≡ a + b = omega arith in
        sym (one_mul_of_lt m (pow m 2 (x + 1)) (pow-lt m 2 (x + 1) (one_lt m w))) ∙ ap (λ (y : ℕ). mul m y (pow m 2 (x + 1))) (sym (order m w))
        ∙ sym (pow-add m 2 (2 ^ m - 1) (x + 1) (one_lt m w)) ∙ ap (pow m 2) s';
  }
  brought_down (suc (suc q)) x h i s = absurd (omega arith)

  pub product_log : (size : ℕ) → size ≡ 2 ^ m → ProductLog m a b ((a + b) % size + (a + b) / size)
  product_log size s =
      let low : (a + b) / 2 ^ m < 2 = (div-lt_iff_lt-mul {k = 2 ^ m} {x = a + b} {y = 2} (pow_pos m)).1 (omega arith) in
      rw s (brought_down ((a + b) / 2 ^ m) ((a + b) % 2 ^ m) low (mod-lt (a + b) (pow_pos m)) (div-add-mod' (a + b) (2 ^ m)))

-- ---- of the powers of a point

exponents_more : {m P i e : ℕ} {table : List ℕ} → ExponentsOf m P i table → i < longest → Exponent m P i e → ExponentsOf m P (i + 1) (set table i e)
exponents_more {m} {P} {i} {e} {table} x l h = record { size = length-set table i e ∙ x.size; at = λ c b. found c b (ℕᴺ_discrete c i) }
  where
    found : (c : ℕ) → c < i + 1 → Dec (c ≡ i) → Exponent m P c (get_or (set table i e) c 0)
    found c b (yes q) = rw (q, get_or-set_same table i e 0 (omega (arith, x.size))) h
    found c b (no q) = rw (get_or-set_other table i c e 0 q) (x.at c (omega arith))

-- the terms of the coefficient 0 below i are added, the logarithms of the powers below i written down, and e is the next
pub record Walked (m P : ℕ) (f : List ℕ) (i e total : ℕ) (table : List ℕ) : Type 0 where
  pub added : Added m P f 0 i total
  pub written : ExponentsOf m P i table
  pub next : Exponent m P i e

module _ (t : Terms) (P : ℕ) where
  pub walked_first : (table : List ℕ) → length table ≡ longest → Walked t.field.m P t.message.now 0 0 0 table
  unfolding pow
  walked_first table s = record {
    added = added_first t P 0;
    written = record { size = s; at = λ i l. absurd (omega arith) };
    next = record { below = pow_pos t.field.m; power = refl };
  }

  module _ (i e total : ℕ) (table : List ℕ) (a : Walked t.field.m P t.message.now i e total table) (l : i < length t.message.now) where
    exponent : Exponent t.field.m P (i - 0) e
    exponent = rw sub-zero a.next

    onward : (step e' : ℕ) → Logarithm t.field.m P step → ProductLog t.field.m e step e' → Exponent t.field.m P (i + 1) e'
    unfolding pow
    onward step e' g p = record {
      below = p.below;
      power =
          p.power ∙ pow-add t.field.m 2 e step (one_lt t.field.m t.field.known) ∙ ap₂ (mul t.field.m) a.next.power g.power ∙ mul_comm t.field.m (pow t.field.m P i) P
          ∙ ap (pow t.field.m P) (sym (add-one i));
    }

    pub walked_more : (step e' : ℕ) → Logarithm t.field.m P step → ProductLog t.field.m e step e'
        → Walked t.field.m P t.message.now (i + 1) e' (bit_xor total (get_or t.powers.now (get_or t.symbols.now i 0 + e) 0)) (set table i e)
    walked_more step e' g p = record {
      added = added_more t P 0 i e total l a.added exponent (i + 1) (next_all i);
      written = exponents_more a.written (omega (arith, t.short)) a.next;
      next = onward step e' g p;
    }
