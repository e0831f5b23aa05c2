-- Every multiple of a row from x times and 16 x times the row, x below 16.
use mathlib.Core.Path.{◌≡◌, refl, sym, ap, ap₂, ◌∙◌}
use mathlib.Core.Logic.{⊎_elim, inl, inr}
use Prim.Native.Nat.{ℕ, zero, suc, ◌+◌, ◌*◌, ◌/◌, ◌%◌, ◌^◌, ◌<◌, ◌≤◌}
use native.Mathlib.Nat.{mod-lt, mul-one, pow-suc}
use native.Mathlib.Omega.{arith}
use native.Mathlib.Nat as N
use lib.Pow.{pow_pos, split}
use lib.Bits.{xor_shifted}
use Rattle.theory.proofs.Order.{eq_or_not, lt_or_le, eq_lt}
use Rattle.theory.proofs.Width.{field_top}
use Rattle.defs.specs.Field.{Width, add, times2, mul}
use Rattle.field.proofs.Twice.{twice_low}
use Rattle.theory.proofs.Field.{add_0, add_comm, mul_add_l, mul_assoc, mul_comm, mul_times2_l, times2_pow, one_mul_of_lt, 0-mul}
use Rattle.solve.specs.Table.{stride}
use Rattle.solve.specs.System.{Matrix}
use Rattle.solve.specs.Multiples.{Copied, Set, Filled, Multiples}

-- a number from its high and its low bits
parts : (k n : ℕ) → add (n / 2 ^ k * 2 ^ k) (n % 2 ^ k) ≡ n
unfolding add
parts k n = xor_shifted (n / 2 ^ k) k (n % 2 ^ k) (mod-lt n (pow_pos k)) ∙ split n k

-- ---- 2 ^ m elements

module _ (m : ℕ) where
  shifts : (i y : ℕ) → i < m → y * 2 ^ i < 2 ^ m → mul m (2 ^ i) y ≡ y * 2 ^ i
  shifts zero y h l = one_mul_of_lt m y (eq_lt (sym (mul-one y)) l) ∙ sym (mul-one y)
  shifts (suc i) y h l =
      ap (λ (a : ℕ). mul m a y) (sym (times2_pow m i h)) ∙ mul_times2_l m (2 ^ i) y
      ∙ ap (times2 m) (shifts i y (omega arith) (omega (arith, more))) ∙ sym (twice_low m (y * 2 ^ i) (omega (arith, more))).is ∙ sym more
    where
      more : y * 2 ^ suc i ≡ y * 2 ^ i * 2
      more = ap (λ (a : ℕ). y * a) (pow-suc 2 i) ∙ sym (N.mul_assoc y (2 ^ i) 2)

  module _ (start cols base : ℕ) (fits : cols ≤ stride) {M : Matrix} where
    pub filled_first : ((j : ℕ) → start ≤ j → j < cols → M base j ≡ 0) → ((i j : ℕ) → M i j < 2 ^ m) → Filled m start cols base 2 M M
    filled_first none small = record {
      rows = λ x j h i s l. at_first x j h s l;
      before = λ i j h l. refl;
      after = λ i j h l. refl;
    }
      where
        at_first : (x j : ℕ) → x < 2 → start ≤ j → j < cols → M (base + x) j ≡ mul m x (M (base + 1) j)
        at_first zero j h s l =
            let e : base + 0 ≡ base = omega arith in
            ap (λ (i : ℕ). M i j) e ∙ none j s l ∙ sym (0-mul m (M (base + 1) j))
        at_first (suc zero) j h s l = sym (one_mul_of_lt m (M (base + 1) j) (small (base + 1) j))
        at_first (suc (suc x)) j h s l = absurd (omega arith)

    -- x is twice x / 2, and x % 2 more
    pub filled_next : {n : ℕ} {N K : Matrix} → 2 ≤ n → Filled m start cols base n M N → Set m start cols (base + n) (base + n / 2) (base + n % 2) N K
        → Filled m start cols base (n + 1) M K
    filled_next {n} {N} {K} two F S = record {
      rows = λ x j h i s l.
          ⊎_elim
          (λ w. rw w (this j (rw w at i) s l))
          (λ w. S.others (base + x) j (λ e. w (omega arith)) (omega arith) ∙ F.rows x j (omega arith) i s l)
          (eq_or_not x n);
      before = λ i j h l. S.others i j (λ e. omega arith) l ∙ F.before i j h l;
      after = λ i j h l. S.others i j (λ e. omega arith) l ∙ F.after i j (omega arith) l;
    }
      where
        this : (j : ℕ) → n < 2 ^ m → start ≤ j → j < cols → K (base + n) j ≡ mul m n (M (base + 1) j)
        this j i s l =
            let a = M (base + 1) j in
            S.row j s l
            ∙ ap₂ (λ (x y : ℕ). add (times2 m x) y) (F.rows (n / 2) j (omega arith) (omega arith) s l) (F.rows (n % 2) j (omega arith) (omega arith) s l)
            ∙ ap (λ (x : ℕ). add x (mul m (n % 2) a)) (sym (mul_times2_l m (n / 2) a)) ∙ sym (mul_add_l m (times2 m (n / 2)) (n % 2) a)
            ∙ ap (λ (x : ℕ). mul m (add x (n % 2)) a) (sym (twice_low m (n / 2) (omega arith)).is) ∙ ap (λ (x : ℕ). mul m x a) (parts 1 n)

  wide : Width m → (f : ℕ) → f < 2 ^ m → 16 ≤ f → m ≡ 8
  wide (inl e) f h l = let b : f < 2 ^ 2 = rw e at h in absurd (omega arith)
  wide (inr (inl e)) f h l = let b : f < 2 ^ 4 = rw e at h in absurd (omega arith)
  wide (inr (inr e)) f h l = e

  module _ (start cols c : ℕ) (fits : cols ≤ stride) (W : Width m) {T A B C D : Matrix} (P : Copied start cols c T A) (F : Filled m start cols 0 16 A B)
      (S : Set m start cols 17 8 0 B C) (G : Filled m start cols 16 16 C D) where
    pub made : Multiples m start cols (T c) D
    made = record { sums = λ f j h s l. ⊎_elim (small f j h s l) (large f j h s l) (lt_or_le f 16) }
      where
        low : (x j : ℕ) → x < 16 → x < 2 ^ m → start ≤ j → j < cols → B x j ≡ mul m x (T c j)
        low x j h i s l =
            let e : 0 + x ≡ x = omega arith in
            ap (λ (y : ℕ). B y j) (sym e) ∙ F.rows x j h i s l ∙ ap (mul m x) (P.row j s l)

        first : (f j : ℕ) → f < 2 ^ m → start ≤ j → j < cols → D (f % 16) j ≡ mul m (f % 16) (T c j)
        first f j h s l =
            G.before (f % 16) j (omega arith) (omega arith) ∙ S.others (f % 16) j (λ e. omega arith) (omega arith)
            ∙ low (f % 16) j (omega arith) (omega arith) s l

        small : (f j : ℕ) → f < 2 ^ m → start ≤ j → j < cols → f < 16 → add (D (f % 16) j) (D (16 + f / 16) j) ≡ mul m f (T c j)
        small f j h s l i =
            let e : f % 16 ≡ f = omega arith in
            let d : 16 + f / 16 ≡ 16 = omega arith in
            ap₂ add (first f j h s l ∙ ap (λ (x : ℕ). mul m x (T c j)) e)
            (ap (λ (x : ℕ). D x j) d ∙ G.before 16 j (omega arith) (omega arith) ∙ S.others 16 j (λ w. omega arith) (omega arith)
            ∙ F.after 16 j (omega arith) (omega arith) ∙ P.others 16 j (λ w. omega arith) (omega arith))
            ∙ add_0 (mul m f (T c j))

        large : (f j : ℕ) → f < 2 ^ m → start ≤ j → j < cols → 16 ≤ f → add (D (f % 16) j) (D (16 + f / 16) j) ≡ mul m f (T c j)
        large f j h s l i =
            ap₂ add (first f j h s l) (G.rows (f / 16) j (omega (arith, field_top m W)) (omega arith) s l ∙ ap (mul m (f / 16)) sixteen ∙ up)
            ∙ sym (mul_add_l m (f % 16) (f / 16 * 16) a) ∙ ap (λ (x : ℕ). mul m x a) (add_comm (f % 16) (f / 16 * 16) ∙ parts 4 f)
          where
            a : ℕ
            a = T c j

            eight : 8 < 2 ^ m
            eight = omega arith

            width : m ≡ 8
            width = wide W f h i

            sixteen : C (16 + 1) j ≡ mul m 16 a
            sixteen =
                S.row j s l
                ∙ ap₂ (λ (x y : ℕ). add (times2 m x) y) (low 8 j (omega arith) eight s l)
                (F.before 0 j (omega arith) (omega arith) ∙ P.others 0 j (λ w. omega arith) (omega arith))
                ∙ add_0 (times2 m (mul m 8 a)) ∙ sym (mul_times2_l m 8 a) ∙ ap (λ (x : ℕ). mul m x a) (times2_pow m 3 (omega (arith, width)))

            up : mul m (f / 16) (mul m 16 a) ≡ mul m (f / 16 * 16) a
            up =
                sym (mul_assoc m (f / 16) 16 a)
                ∙ ap (λ (x : ℕ). mul m x a) (mul_comm m (f / 16) 16 ∙ shifts 4 (f / 16) (omega (arith, width)) (omega arith))

  -- the row may change before start and from cols on
  pub made_same : {start cols : ℕ} {r q : ℕ → ℕ} {N : Matrix} → ((j : ℕ) → j < cols → q j ≡ r j) → Multiples m start cols r N → Multiples m start cols q N
  made_same e M = record { sums = λ f j h s l. M.sums f j h s l ∙ ap (mul m f) (sym (e j l)) }
