-- The level of a chunk, symbol by symbol: its quotients are the levels of the chunk's fronts, and its digits the symbols.
use Prim.Native.Nat.{ℕ, zero, suc, ◌+◌, ◌*◌, ◌-◌, ◌/◌, ◌%◌, ◌^◌, ◌<◌, ◌≤◌}
use mathlib.Core.Path.{◌≡◌, refl, ap, sym, ◌∙◌}
use native.Mathlib.Nat.{
  add-zero,
  add-suc,
  zero-mul,
  add-mul,
  suc-mul,
  mul-one,
  mul_assoc,
  pow-zero,
  pow-suc,
  pow-succ',
  mul-le-mul_right,
  div-one,
  div-eq_of_lt,
  div-add-mod',
  div-div-eq-div-mul,
  mul-add-div_right,
  mul-add-mod_self_right,
  mod-eq_of_lt,
  sub-zero,
}
use native.Mathlib.Omega.{arith}
use Rattle.defs.specs.Place.{total}
use Rattle.defs.specs.Levels.{level}
use Rattle.theory.proofs.Place.{total_ext}

module _ (q : ℕ) where
  scale : (n : ℕ) (F G : ℕ → ℕ) → ((i : ℕ) → i < n → F i ≡ G i * q) → total n F ≡ total n G * q
  unfolding total
  scale zero F G h = sym (zero-mul q)
  scale (suc n) F G h = omega (arith, scale n F G (λ i l. h i (omega arith)), h n (omega arith), add-mul (total n G) (G n) q)

  -- the weight of a symbol grows by q with each symbol behind it
  weight : (n : ℕ) (u : ℕ → ℕ) (j : ℕ) → j < n → u j * q ^ (suc n - 1 - j) ≡ u j * q ^ (n - 1 - j) * q
  weight n u j l =
      let e : suc n - 1 - j ≡ suc (n - 1 - j) = omega arith in
      ap (λ (x : ℕ). u j * q ^ x) e ∙ ap (λ (x : ℕ). u j * x) (pow-suc q (n - 1 - j)) ∙ sym (mul_assoc (u j) (q ^ (n - 1 - j)) q)

  last_weight : (n : ℕ) (u : ℕ → ℕ) → u n * q ^ (suc n - 1 - n) ≡ u n
  last_weight n u =
      let e : suc n - 1 - n ≡ 0 = omega arith in
      ap (λ (x : ℕ). u n * q ^ x) e ∙ ap (λ (x : ℕ). u n * x) (pow-zero q) ∙ mul-one (u n)

  pub level_none : (u : ℕ → ℕ) → level q 0 u ≡ 0
  unfolding level total
  level_none u = refl

  pub level_more : (n : ℕ) (u : ℕ → ℕ) → level q (suc n) u ≡ level q n u * q + u n
  unfolding level total
  level_more n u = omega (arith, scale n (λ j. u j * q ^ (suc n - 1 - j)) (λ j. u j * q ^ (n - 1 - j)) (weight n u), last_weight n u)

  pub level_ext : (n : ℕ) (u v : ℕ → ℕ) → ((j : ℕ) → j < n → u j ≡ v j) → level q n u ≡ level q n v
  unfolding level
  level_ext n u v e = total_ext n _ _ (λ j l. ap (λ (x : ℕ). x * q ^ (n - 1 - j)) (e j l))

  pub level_low : (n : ℕ) (u : ℕ → ℕ) → ((j : ℕ) → j < n → u j < q) → level q n u < q ^ n
  level_low zero u h = omega (arith, level_none u, pow-zero q)
  level_low (suc n) u h =
      let l : level q n u < q ^ n = level_low n u (λ j l. h j (omega arith)) in
      omega (arith, level_more n u, pow-suc q n, mul-le-mul_right q l, suc-mul (level q n u) q, h n (omega arith))

  module _ (pos : 0 < q) where
    -- symbols behind the first n do not count in the quotient
    pub level_front : (d n : ℕ) (u : ℕ → ℕ) → ((j : ℕ) → j < n + d → u j < q) → level q (n + d) u / q ^ d ≡ level q n u
    level_front zero n u h =
        ap (λ (x : ℕ). level q x u / q ^ 0) (add-zero n) ∙ ap (λ (x : ℕ). level q n u / x) (pow-zero q) ∙ div-one (level q n u)
    level_front (suc d) n u h =
        let more : level q (n + suc d) u ≡ level q (n + d) u * q + u (n + d) = ap (λ (x : ℕ). level q x u) (add-suc n d) ∙ level_more (n + d) u in
        let low : u (n + d) < q = h (n + d) (omega arith) in
        ap (λ (x : ℕ). level q (n + suc d) u / x) (pow-succ' q d)
        ∙ sym (div-div-eq-div-mul (level q (n + suc d) u) q (q ^ d))
        ∙ ap (λ (x : ℕ). x / q ^ d)
        (ap (λ (x : ℕ). x / q) more ∙ mul-add-div_right pos (level q (n + d) u) (u (n + d))
        ∙ ap (λ (x : ℕ). level q (n + d) u + x) (div-eq_of_lt low) ∙ add-zero (level q (n + d) u))
        ∙ level_front d n u (λ j l. h j (omega arith))

    module _ (r : ℕ) (u : ℕ → ℕ) (low : (j : ℕ) → j < r → u j < q) where
      -- the quotient by q ^ (r - s) is the level of the first s symbols
      pub level_quotient : (s : ℕ) → s ≤ r → level q r u / q ^ (r - s) ≡ level q s u
      level_quotient s l =
          let e : r ≡ s + (r - s) = omega arith in
          ap (λ (x : ℕ). level q x u / q ^ (r - s)) e ∙ level_front (r - s) s u (λ j k. low j (omega arith))

      pub level_digit : (j : ℕ) → j < r → level q r u / q ^ (r - 1 - j) % q ≡ u j
      level_digit j l =
          let e : r - 1 - j ≡ r - suc j = omega arith in
          ap (λ (x : ℕ). level q r u / q ^ x % q) e
          ∙ ap (λ (x : ℕ). x % q) (level_quotient (suc j) l ∙ level_more j u)
          ∙ mul-add-mod_self_right (level q j u) q (u j) ∙ mod-eq_of_lt (low j l)

  -- the digits of a level are a chunk that has it
  module _ (r v : ℕ) (top : v < q ^ r) where
    digits_front : (s : ℕ) → s ≤ r → level q s (λ j. v / q ^ (r - 1 - j) % q) ≡ v / q ^ (r - s)
    digits_front zero l =
        level_none (λ j. v / q ^ (r - 1 - j) % q) ∙ sym (ap (λ (x : ℕ). v / q ^ x) (sub-zero r) ∙ div-eq_of_lt top)
    digits_front (suc s) l =
        let x = r - 1 - s in
        let e : r - s ≡ suc x = omega arith in
        let f : x ≡ r - suc s = omega arith in
        let split : v / q ^ (r - s) ≡ v / q ^ x / q =
        ap (λ (y : ℕ). v / q ^ y) e ∙ ap (λ (y : ℕ). v / y) (pow-suc q x) ∙ sym (div-div-eq-div-mul v (q ^ x) q) in
        level_more s (λ j. v / q ^ (r - 1 - j) % q)
        ∙ ap (λ (y : ℕ). y * q + v / q ^ x % q) (digits_front s (omega arith) ∙ split)
        ∙ div-add-mod' (v / q ^ x) q ∙ ap (λ (y : ℕ). v / q ^ y) f

    pub digits_level : level q r (λ j. v / q ^ (r - 1 - j) % q) ≡ v
    digits_level =
        let e : r - r ≡ 0 = omega arith in
        digits_front r (omega arith) ∙ ap (λ (x : ℕ). v / q ^ x) e ∙ ap (λ (x : ℕ). v / x) (pow-zero q) ∙ div-one v
