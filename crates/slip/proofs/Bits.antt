-- The laws of bits and of the numbers that they make, over the width of a field.
use Prim.Native.Nat.{ℕ, zero, suc, ◌+◌, ◌*◌, ◌-◌, ◌/◌, ◌%◌, ◌^◌, ◌<◌, ◌≤◌}
use mathlib.Core.Path.{◌≡◌, refl, ap, sym, ◌∙◌}
use mathlib.Core.List.{List, [], ◌∷◌, ◌++◌}
use native.Mathlib.Nat.{zero-add, add-zero, suc-add, add-suc, add_comm, add_assoc, zero-mul, mul-zero, mul-suc, add-mul, mul_assoc, mul-le-mul_right, zero-mod, mod-one, mod-lt, mod-eq_of_lt, div-add-mod', div-lt_iff_lt-mul, mul_comm, pow-suc}
use native.Mathlib.Numerals.{one-add}
use native.Mathlib.Omega.{arith}
use lib.Dec.{lit<}
use lib.ListN.{length, get_or, length-append, get_or-append, get_or-eq_default}
use lib.Pow.{pow-add, mod-pow-add, high, low}
use lib.Seq.{get_or-append-add}
use Rattle.defs.specs.Place.{tab, Symbols}
use Rattle.defs.specs.Slip.{bits, all_bits, number_at}
use Rattle.theory.proofs.Place.{get_d_tab}

-- ---- lists of bits

pub length_bits : (w x : ℕ) → length (bits w x) ≡ w
unfolding bits
length_bits zero x = refl
length_bits (suc w) x = ap suc (length_bits w x)

pub symbols_append : (m : ℕ) (s t : List ℕ) → Symbols m s → Symbols m t → Symbols m (s ++ t)
symbols_append m [] t a b i = b i
symbols_append m (x ∷ s) t a b zero = a zero
symbols_append m (x ∷ s) t a b (suc i) = symbols_append m s t (λ j. a (suc j)) b i

pub bits_are : (w x : ℕ) → Symbols 1 (bits w x)
unfolding bits
bits_are zero x i = lit< tt
bits_are (suc w) x zero = mod-lt (x / 2 ^ w) (lit< tt)
bits_are (suc w) x (suc i) = bits_are w x i

pub all_bits_are : (w : ℕ) (s : List ℕ) → Symbols 1 (all_bits w s)
unfolding all_bits
all_bits_are w [] i = lit< tt
all_bits_are w (x ∷ s) i = symbols_append 1 (bits w x) (all_bits w s) (bits_are w x) (all_bits_are w s) i

pub length_all_bits : (w : ℕ) (s : List ℕ) → length (all_bits w s) ≡ w * length s
unfolding all_bits
length_all_bits w [] = sym (mul-zero w)
length_all_bits w (x ∷ s) = rw (length-append, length_bits, length_all_bits w s, mul-suc) (add_comm w (w * length s))

-- ---- numbers

-- a number sees its own bits alone
pub number_same : (w p q : ℕ) (s t : List ℕ) → ((i : ℕ) → i < w → get_or s (p + i) 0 ≡ get_or t (q + i) 0) → number_at w p s ≡ number_at w q t
unfolding number_at
number_same zero p q s t h = refl
number_same (suc w) p q s t h =
    let e : get_or s p 0 ≡ get_or t q 0 = simp add-zero at (h 0 (omega arith)) in
    cc (e, number_same w (suc p) (suc q) s t (λ i l. simp (suc-add, ← add-suc) (h (suc i) (omega arith))))

pub number_below : (w p : ℕ) (s : List ℕ) → Symbols 1 s → number_at w p s < 2 ^ w
unfolding number_at
number_below zero p s h = lit< tt
number_below (suc w) p s h =
    omega (arith, pow-suc 2 w, number_below w (suc p) s h, mul-le-mul_right {m = get_or s p 0} {n = 1} (2 ^ w) (omega (arith, h p)))

-- a field and the one behind it
pub number_split : (a b p : ℕ) (s : List ℕ) → number_at (a + b) p s ≡ number_at a p s * 2 ^ b + number_at b (p + a) s
unfolding number_at
number_split zero b p s = rw (zero-add, zero-mul, zero-add, add-zero)
number_split (suc a) b p s =
    rw (suc-add, number_split a b (suc p) s, pow-add, ← mul_assoc, ← add_assoc, ← add-mul, suc-add, ← add-suc)

-- a field of w bits with a before it and c behind it: what is behind is divided away, what is before is cut off
pub number_inside : (a w c n p : ℕ) (s : List ℕ) → a + (w + c) ≡ n → Symbols 1 s → number_at n p s / 2 ^ c % 2 ^ w ≡ number_at w (p + a) s
number_inside a w c n p s e h =
    rw (← e, number_split a (w + c) p s, number_split w c (p + a) s, pow-add, ← mul_assoc, ← add_assoc, ← add-mul)
    (rw (high (number_at a p s * 2 ^ w + number_at w (p + a) s) c (number_below c (p + a + w) s h))
    (low (number_at a p s) w (number_below w (p + a) s h)))

pub number_one : (p : ℕ) (s : List ℕ) → number_at 1 p s ≡ get_or s p 0
unfolding number_at
number_one p s = omega arith

-- equal numbers have equal bits
pub bits_told : (w p q : ℕ) (s t : List ℕ) → Symbols 1 s → Symbols 1 t → number_at w p s ≡ number_at w q t
    → (i : ℕ) → i < w → get_or s (p + i) 0 ≡ get_or t (q + i) 0
bits_told w p q s t hs ht e i l =
    let c = w - 1 - i in
    let split : i + (1 + c) ≡ w = omega arith in
    sym (number_one (p + i) s)
    ∙ sym (number_inside i 1 c w p s split hs)
    ∙ ap (λ (x : ℕ). x / 2 ^ c % 2 ^ 1) e
    ∙ number_inside i 1 c w q t split ht
    ∙ number_one (q + i) t

-- bits behind others
pub number_front : (w p : ℕ) (s t : List ℕ) → p + w ≤ length s → number_at w p (s ++ t) ≡ number_at w p s
number_front w p s t h = number_same w p p (s ++ t) s (λ i l. get_or-append s t 0 (p + i) (omega arith))

pub number_behind : (w p n : ℕ) (s t : List ℕ) → length s ≡ n → number_at w (n + p) (s ++ t) ≡ number_at w p t
number_behind w p n s t e = number_same w (n + p) p (s ++ t) t (λ i l. rw (← e, add_assoc) (get_or-append-add s t (p + i) 0))

-- the number of a field that was written, alone and before others
pub number_bits : (w x : ℕ) → number_at w 0 (bits w x) ≡ x % 2 ^ w
unfolding number_at bits
number_bits zero x = sym (mod-one x)
number_bits (suc w) x =
    rw (number_same w 1 0 (bits (suc w) x) (bits w x) (λ i l. simp (one-add, zero-add)), number_bits w x) (rw (← one-add w) (sym (mod-pow-add x 1 w)))

pub number_field : (w x : ℕ) (t : List ℕ) → number_at w 0 (bits w x ++ t) ≡ x % 2 ^ w
number_field w x t = number_front w 0 (bits w x) t (omega (arith, length_bits w x)) ∙ number_bits w x

pub number_past : (v p w x : ℕ) (t : List ℕ) → number_at v (w + p) (bits w x ++ t) ≡ number_at v p t
number_past v p w x t = number_behind v p w (bits w x) t (length_bits w x)

pub number_fields : (w v x : ℕ) (t : List ℕ) → number_at (w + v) 0 (bits w x ++ t) ≡ x % 2 ^ w * 2 ^ v + number_at v 0 t
number_fields w v x t =
    rw (number_split, number_field, ← number_past v 0 w x t) (ap (λ (p : ℕ). x % 2 ^ w * 2 ^ v + number_at v p (bits w x ++ t)) (omega arith))

-- a number, the field behind it and what is behind that: the field is put behind the number
pub number_next : (h w v x : ℕ) (t : List ℕ) → x < 2 ^ w → h * 2 ^ (w + v) + number_at (w + v) 0 (bits w x ++ t) ≡ (h * 2 ^ w + x) * 2 ^ v + number_at v 0 t
number_next h w v x t l =
    rw (number_fields w v x t, mod-eq_of_lt l, pow-add, add-mul, ← mul_assoc) (sym (add_assoc (h * 2 ^ w * 2 ^ v) (x * 2 ^ v) (number_at v 0 t)))

-- equal fields one behind the other
pub fields_same : (w v p : ℕ) (s t : List ℕ) → number_at w p s ≡ number_at w p t → number_at v (p + w) s ≡ number_at v (p + w) t
    → number_at (w + v) p s ≡ number_at (w + v) p t
fields_same w v p s t a b = rw (number_split w v p s, number_split w v p t, a, b)

pub number_nil : (w p : ℕ) → number_at w p [] ≡ 0
unfolding number_at
number_nil zero p = refl
number_nil (suc w) p = rw (number_nil w (suc p)) (rw zero-mul)

-- past the end stands 0
pub number_beyond : (w p : ℕ) (s : List ℕ) → length s ≤ p → number_at w p s ≡ 0
number_beyond w p s h = number_same w p 0 s [] (λ i l. get_or-eq_default s 0 {n = p + i} (omega arith)) ∙ number_nil w 0

-- a symbol among those of its width
pub number_symbol : (w : ℕ) (s : List ℕ) (j : ℕ) → number_at w (w * j) (all_bits w s) ≡ get_or s j 0 % 2 ^ w
unfolding all_bits
number_symbol w [] j = rw zero-mod (number_nil w (w * j))
number_symbol w (x ∷ s) zero = rw mul-zero (number_field w x (all_bits w s))
number_symbol w (x ∷ s) (suc j) =
    rw (mul-suc, add_comm, number_past w (w * j) w x (all_bits w s)) (number_symbol w s j)

-- the bits of the symbols that were read out of bits are these bits
pub symbols_told : (m p n : ℕ) (s : List ℕ) → 0 < m → Symbols 1 s → (i : ℕ) → i < m * n
    → get_or (all_bits m (tab (λ j. number_at m (p + m * j) s) n)) i 0 ≡ get_or s (p + i) 0
symbols_told m p n s pos h i l =
    let T : List ℕ = tab (λ j. number_at m (p + m * j) s) n in
    let j = i / m in
    let b = i % m in
    let whole : m * j + b ≡ i = ap (λ (x : ℕ). x + i % m) (mul_comm m (i / m)) ∙ div-add-mod' i m in
    let there : j < n = (div-lt_iff_lt-mul pos).1 (omega (arith, mul_comm m n)) in
    let symbol : number_at m (m * j) (all_bits m T) ≡ number_at m (p + m * j) s =
    number_symbol m T j ∙ rw (get_d_tab (λ j. number_at m (p + m * j) s) n j there) (mod-eq_of_lt (number_below m (p + m * j) s h)) in
    let told : get_or (all_bits m T) (m * j + b) 0 ≡ get_or s (p + m * j + b) 0 =
    bits_told m (m * j) (p + m * j) (all_bits m T) s (all_bits_are m T) h symbol b (mod-lt i pos) in
    let place : p + m * j + b ≡ p + i = omega arith in
    rw (whole, place) at told
