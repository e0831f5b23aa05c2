-- One Hasse coefficient, added up from the lowest power, over the terms that count.
use Prim.Native.Nat.{ℕ, zero, suc, min, ◌+◌, ◌*◌, ◌-◌, ◌%◌, ◌^◌, ◌<◌, ◌≤◌}
use mathlib.Core.Path.{◌≡◌, refl, ap, ap₂, sym, ◌∙◌}
use mathlib.Core.List.{List, [], ◌∷◌}
use native.Mathlib.Nat.{add-sub_of_le, add-sub_cancel_left, zero-mul, one-mul, mul-zero, zero-add}
use native.Mathlib.Decide.{dec_le}
use native.Mathlib.Omega.{arith}
use lib.Bits.{bit_xor}
use lib.ListN.{length, get_or, get_or-eq_default}
use Rattle.defs.specs.Field.{add, mul, pow, binom}
use Rattle.defs.specs.Place.{Symbols}
use Rattle.defs.specs.Limits.{deepest}
use Rattle.defs.specs.Row.{sum, sum_from, coefficient}
use Rattle.theory.proofs.Field.{add_0, 0-mul}
use Rattle.theory.proofs.Sum.{sum_ext, sum_last, sum_cut}
use Rattle.theory.proofs.Binomial.{self_odd}
use Rattle.theory.specs.Poly.{h}
use Rattle.theory.proofs.Formula.{coefficient_h}
use Rattle.field.specs.Binomial.{NextOdd}
use Rattle.rows.specs.Tables.{Exponent}
use Rattle.code.specs.Chunk.{chunk_of}
use Rattle.rows.specs.declared.Terms.{Terms}
use Rattle.code.proofs.Chunks.{chunk_same, chunk_short}
use Rattle.rows.proofs.Lookup.{look_up}

-- the term of formula (2) at the power j + x
abbrev term : ℕ → List ℕ → ℕ → ℕ → ℕ → ℕ
term m f P j x = binom (j + x) j % 2 * mul m (get_or f (j + x) 0) (pow m P x)

coefficient_is : (m P : ℕ) (f : List ℕ) (j : ℕ) → sum (length f - j) (term m f P j) ≡ coefficient m f P j
unfolding coefficient sum_from
coefficient_is m P f j = sum_ext (length f - j) _ _ (λ x l. rw (add-sub_cancel_left j x))

-- the terms below the power i are added, and the next one counts
pub record Added (m P : ℕ) (f : List ℕ) (j i total : ℕ) : Type 0 where
  pub low : j ≤ i
  pub odd : binom i j % 2 ≡ 1
  pub is : total ≡ sum (i - j) (term m f P j)

module _ (t : Terms) (P j : ℕ) where
  pub added_first : Added t.field.m P t.message.now j j 0
  unfolding sum
  added_first = let e : j - j ≡ 0 = omega arith in record { low = omega arith; odd = self_odd j; is = rw e }

  module _ (i e total : ℕ) (l : i < length t.message.now) (a : Added t.field.m P t.message.now j i total) (x : Exponent t.field.m P (i - j) e) where
    at_most : e ≤ 2 ^ t.field.m - 1
    at_most = omega (arith, x.below)

    product : get_or t.powers.now (get_or t.symbols.now i 0 + e) 0 ≡ mul t.field.m (get_or t.message.now i 0) (pow t.field.m P (i - j))
    product =
        look_up t.field.m t.field.known (get_or t.message.now i 0) (get_or t.symbols.now i 0) e (t.symbols_of.at i l) at_most t.powers.now t.powers_of
        ∙ ap (mul t.field.m (get_or t.message.now i 0)) x.power

    term_is : get_or t.powers.now (get_or t.symbols.now i 0 + e) 0 ≡ term t.field.m t.message.now P j (i - j)
    term_is = let s : j + (i - j) ≡ i = add-sub_of_le a.low in rw (s, a.odd, product) (sym (one-mul _))

    -- the terms between have even binomials
    passed_over : (n : ℕ) → NextOdd i j n → (y : ℕ) → suc (i - j) ≤ y → y < n - j → term t.field.m t.message.now P j y ≡ 0
    passed_over n o y h b = rw (o.even (j + y) (omega (arith, a.low)) (omega arith)) (zero-mul _)

    pub added_more : (n : ℕ) → NextOdd i j n → Added t.field.m P t.message.now j n (bit_xor total (get_or t.powers.now (get_or t.symbols.now i 0 + e) 0))
    unfolding add
    added_more n o = record {
      low = omega (arith, a.low, o.above);
      odd = o.odd;
      is =
          ap₂ bit_xor a.is term_is ∙ sym (sum_last (i - j) (term t.field.m t.message.now P j))
          ∙ sym (sum_cut (suc (i - j)) (n - j) (term t.field.m t.message.now P j) (passed_over n o) (omega (arith, a.low, o.above)));
    }

pub added_last : (m P j : ℕ) (f : List ℕ) (i total : ℕ) → Added m P f j i total → length f ≤ i → total ≡ coefficient m f P j
added_last m P j f i total a l = a.is ∙ sum_cut (length f - j) (i - j) (term m f P j) behind (omega arith) ∙ coefficient_is m P f j
  where
    behind : (x : ℕ) → length f - j ≤ x → x < i - j → term m f P j x ≡ 0
    behind x h b = rw (get_or-eq_default f 0 {n = j + x} (omega arith), 0-mul) (mul-zero _)

-- over 0 every binomial is odd
pub next_all : (i : ℕ) → NextOdd i 0 (i + 1)
unfolding binom
next_all i = record { above = omega arith; odd = refl; even = λ c l h. absurd (omega arith) }

-- ---- at the point 0

h_zero : (m j : ℕ) (f : List ℕ) → h m 0 j f ≡ get_or f j 0
unfolding h
h_zero m j [] = refl
h_zero m zero (c ∷ f) = ap (add c) (0-mul m _) ∙ add_0 c
h_zero m (suc j) (c ∷ f) = ap (add (h m 0 j f)) (0-mul m _) ∙ add_0 (h m 0 j f) ∙ h_zero m j f

-- the first symbols of a message, r of them or as many as there are
pub zero_chunk : (m r P n : ℕ) (f : List ℕ) → P ≡ 0 → Symbols m f → r ≤ deepest → n ≡ min (length f) r
    → chunk_of n (λ j. get_or f (0 + j) 0) ≡ chunk_of r (coefficient m f P)
zero_chunk m r P n f e o h q = front (dec_le r (length f)) ∙ chunk_same r _ _ (λ j. sym (ap (λ (Q : ℕ). coefficient m f Q j) e ∙ coefficient_h m 0 j f o ∙ h_zero m j f))
  where
    front : Dec (r ≤ length f) → chunk_of n (λ j. get_or f (0 + j) 0) ≡ chunk_of r (λ j. get_or f j 0)
    front (yes k) = let a : n ≡ r = omega arith in rw a (chunk_same r _ _ (λ j. rw (zero-add j)))
    front (no k) = let a : n ≡ length f = omega arith in rw a (chunk_short f r (omega arith) h)
