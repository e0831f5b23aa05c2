-- The laws of decimal numbers: a digit more, and how many digits there are.
use Prim.Native.Nat.{ℕ, zero, suc, ◌+◌, ◌/◌, ◌%◌, ◌^◌, ◌≤◌, ◌<◌, zero-le}
use mathlib.Core.Path.{◌≡◌, ap, sym, ◌∙◌}
use mathlib.Core.List.{List, [], ◌∷◌, ◌++◌}
use native.Mathlib.Nat.{pow-suc}
use native.Mathlib.Decide.{dec_lt}
use native.Mathlib.Omega.{arith}
use lib.ListN.{length, length-append}
use borrow.Author.Tests.{lt-ltb, le-ltb}
use Rattle.defs.specs.Text.{digits, decimal}

pub digits_one : (d x : ℕ) → x < 10 → digits (suc d) x ≡ (48 + x) ∷ []
unfolding digits
digits_one d x h = rw (lt-ltb x 10 h)

pub digits_ten : (d x : ℕ) → 10 ≤ x → digits (suc d) x ≡ digits d (x / 10) ++ ((48 + x % 10) ∷ [])
unfolding digits
digits_ten d x h = rw (le-ltb x 10 h)

-- room for a digit more changes nothing
digits_more : (d x : ℕ) → x < 10 ^ suc d → digits (suc d) x ≡ digits (suc (suc d)) x
digits_more zero x h = digits_one 0 x h ∙ sym (digits_one 1 x h)
digits_more (suc d) x h = go (dec_lt x 10) (digits_more d (x / 10) (omega (arith, pow-suc 10 (suc d))))
  where
    go : Dec (x < 10) → digits (suc d) (x / 10) ≡ digits (suc (suc d)) (x / 10) → digits (suc (suc d)) x ≡ digits (suc (suc (suc d))) x
    go (yes l) e = digits_one (suc d) x l ∙ sym (digits_one (suc (suc d)) x l)
    go (no l) e = digits_ten (suc d) x (omega arith) ∙ ap (λ (t : List ℕ). t ++ ((48 + x % 10) ∷ [])) e ∙ sym (digits_ten (suc (suc d)) x (omega arith))

pub decimal_one : (x : ℕ) → x < 10 → decimal x ≡ (48 + x) ∷ []
unfolding decimal
decimal_one x h = digits_one 19 x h

pub decimal_ten : (x : ℕ) → 10 ≤ x → x < 2 ^ 64 → decimal x ≡ decimal (x / 10) ++ ((48 + x % 10) ∷ [])
unfolding decimal
decimal_ten x h l = digits_ten 19 x h ∙ ap (λ (t : List ℕ). t ++ ((48 + x % 10) ∷ [])) (digits_more 18 (x / 10) (omega arith))

pub shorter : (x : ℕ) → 10 ≤ x → x < 2 ^ 64 → length (decimal x) ≡ length (decimal (x / 10)) + 1
shorter x h l = ap length (decimal_ten x h l) ∙ length-append (decimal (x / 10)) ((48 + x % 10) ∷ [])

-- ---- how long they are

length_digits : (e d x : ℕ) → x < 10 ^ suc d → length (digits e x) ≤ suc d
unfolding digits
length_digits zero d x h = zero-le
length_digits (suc e) d x h = go d h (dec_lt x 10) (length_digits e)
  where
    go : (d : ℕ) → x < 10 ^ suc d → Dec (x < 10) → ((d y : ℕ) → y < 10 ^ suc d → length (digits e y) ≤ suc d) → length (digits (suc e) x) ≤ suc d
    go d h (yes l) ih = omega (arith, ap length (digits_one e x l))
    go zero h (no l) ih = absurd (omega arith)
    go (suc d) h (no l) ih =
        omega (arith, ap length (digits_ten e x (omega arith)), length-append (digits e (x / 10)) ((48 + x % 10) ∷ []), ih d (x / 10) (omega (arith, pow-suc 10 (suc d))))

pub length_decimal : (d x : ℕ) → x < 10 ^ suc d → length (decimal x) ≤ suc d
unfolding decimal
length_decimal d x h = length_digits 20 d x h

-- no number has more digits than it counts beyond the first
digits_top : (e x : ℕ) → length (digits e x) ≤ suc x
unfolding digits
digits_top zero x = zero-le
digits_top (suc e) x = go (dec_lt x 10) (digits_top e (x / 10))
  where
    go : Dec (x < 10) → length (digits e (x / 10)) ≤ suc (x / 10) → length (digits (suc e) x) ≤ suc x
    go (yes l) ih = omega (arith, ap length (digits_one e x l))
    go (no l) ih = omega (arith, ap length (digits_ten e x (omega arith)), length-append (digits e (x / 10)) ((48 + x % 10) ∷ []))

pub decimal_top : (x : ℕ) → length (decimal x) ≤ suc x
unfolding decimal
decimal_top x = digits_top 20 x
