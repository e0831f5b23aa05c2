-- What is written in decimal is read back; and digits without a leading zero are what is written of the number that they make.
use Prim.Native.Nat.{ℕ, zero, suc, ◌+◌, ◌*◌, ◌-◌, ◌/◌, ◌%◌, ◌^◌, ◌≤◌, ◌<◌}
use mathlib.Core.Bool.{Bool, true, false}
use mathlib.Core.Path.{◌≡◌, refl, ap, sym, ◌∙◌}
use mathlib.Core.List.{List, [], ◌∷◌, ◌++◌, append_assoc, append-nil}
use native.Mathlib.Decide.{dec_lt}
use native.Mathlib.Nat.{pow-suc}
use native.Mathlib.Omega.{arith}
use lib.Dec.{lit<}
use lib.ListN.{length, get_or, take, length-append, get_or-append}
use borrow.Author.Tests.{le-leb}
use Rattle.defs.specs.Text.{digits, decimal, is_digit, digit_count, value_from}
use Rattle.text.proofs.Decimal.{digits_one, digits_ten, decimal_one, decimal_ten}
use Rattle.text.proofs.Numbers.{digit_known, digit_from, count_more, value_more}

-- ---- bytes that are digits

pub data AllDigits : List ℕ → Type 0 where
  none : AllDigits []
  more : {b : ℕ} {s : List ℕ} → is_digit b ≡ true → AllDigits s → AllDigits (b ∷ s)

digit_is : (x : ℕ) → x < 10 → is_digit (48 + x) ≡ true
digit_is x l = digit_from (48 + x) (omega arith) ∙ le-leb (48 + x) 57 (omega arith)

all_append : (s t : List ℕ) → AllDigits s → AllDigits t → AllDigits (s ++ t)
all_append [] t none h = h
all_append (b ∷ s) t (more d g) h = more d (all_append s t g h)

pub count_all : (s t : List ℕ) → AllDigits s → digit_count (s ++ t) ≡ length s + digit_count t
count_all [] t none = omega arith
count_all (b ∷ s) t (more d g) = omega (arith, count_more b (s ++ t) d, count_all s t g)

pub value_all : (s t : List ℕ) (v : ℕ) → AllDigits s → value_from v (s ++ t) ≡ value_from (value_from v s) t
unfolding value_from
value_all [] t v none = refl
value_all (b ∷ s) t v (more d g) = rw d (value_all s t _ g)

-- the digits in front
pub front_all : (s : List ℕ) → AllDigits (take (digit_count s) s)
unfolding digit_count
front_all [] = none
front_all (b ∷ s) = go (is_digit b) refl (front_all s)
  where
    go : (t : Bool) → is_digit b ≡ t → AllDigits (take (digit_count s) s) → AllDigits (take (digit_count (b ∷ s)) (b ∷ s))
    go true e g = rw e (more e g)
    go false e g = rw e none

pub front_value : (s : List ℕ) (v : ℕ) → value_from v (take (digit_count s) s) ≡ value_from v s
unfolding digit_count value_from
front_value [] v = refl
front_value (b ∷ s) v = go (is_digit b) refl (front_value s)
  where
    go : (t : Bool) → is_digit b ≡ t → ((v : ℕ) → value_from v (take (digit_count s) s) ≡ value_from v s)
        → value_from v (take (digit_count (b ∷ s)) (b ∷ s)) ≡ value_from v (b ∷ s)
    go true e g = rw e (rw e (g _))
    go false e g = rw e

-- ---- a number that is written

digits_all : (d x : ℕ) → AllDigits (digits d x)
unfolding digits
digits_all zero x = none
digits_all (suc d) x = go (dec_lt x 10) (digits_all d (x / 10))
  where
    go : Dec (x < 10) → AllDigits (digits d (x / 10)) → AllDigits (digits (suc d) x)
    go (yes l) g = rw (digits_one d x l) (more (digit_is x l) none)
    go (no l) g = rw (digits_ten d x (omega arith)) (all_append _ _ g (more (digit_is (x % 10) (omega arith)) none))

digits_some : (d x : ℕ) → 0 < length (digits (suc d) x)
digits_some d x = go (dec_lt x 10)
  where
    go : Dec (x < 10) → 0 < length (digits (suc d) x)
    go (yes l) = rw (digits_one d x l) (lit< tt)
    go (no l) = omega (arith, ap length (digits_ten d x (omega arith)), length-append (digits d (x / 10)) ((48 + x % 10) ∷ []))

-- one digit
one_value : (v x : ℕ) → x < 10 → value_from v ((48 + x) ∷ []) ≡ v * 10 + x
unfolding value_from
one_value v x l = value_more (48 + x) [] v (digit_is x l) ∙ omega arith

digits_value : (d x : ℕ) → x < 10 ^ suc d → value_from 0 (digits (suc d) x) ≡ x
digits_value zero x h = ap (value_from 0) (digits_one 0 x h) ∙ one_value 0 x h ∙ omega arith
digits_value (suc d) x h = go (dec_lt x 10) (digits_value d (x / 10) (omega (arith, pow-suc 10 (suc d))))
  where
    go : Dec (x < 10) → value_from 0 (digits (suc d) (x / 10)) ≡ x / 10 → value_from 0 (digits (suc (suc d)) x) ≡ x
    go (yes l) e = ap (value_from 0) (digits_one (suc d) x l) ∙ one_value 0 x l ∙ omega arith
    go (no l) e =
        ap (value_from 0) (digits_ten (suc d) x (omega arith))
        ∙ value_all (digits (suc d) (x / 10)) ((48 + x % 10) ∷ []) 0 (digits_all (suc d) (x / 10))
        ∙ one_value _ (x % 10) (omega arith) ∙ omega (arith, e)

-- no leading zero but that of 0
digits_first : (d x : ℕ) → 0 < x → x < 10 ^ suc d → get_or (digits (suc d) x) 0 0 ≡ 48 → ⊥
digits_first zero x p h e = absurd (omega (arith, sym (ap (λ (s : List ℕ). get_or s 0 0) (digits_one 0 x h)) ∙ e))
digits_first (suc d) x p h e = go (dec_lt x 10) (λ l. digits_first d (x / 10) l (omega (arith, pow-suc 10 (suc d))))
  where
    go : Dec (x < 10) → (0 < x / 10 → get_or (digits (suc d) (x / 10)) 0 0 ≡ 48 → ⊥) → ⊥
    go (yes l) ih = omega (arith, sym (ap (λ (s : List ℕ). get_or s 0 0) (digits_one (suc d) x l)) ∙ e)
    go (no l) ih =
        ih (omega arith)
        (sym (ap (λ (s : List ℕ). get_or s 0 0) (digits_ten (suc d) x (omega arith))
        ∙ get_or-append (digits (suc d) (x / 10)) ((48 + x % 10) ∷ []) 0 0 (digits_some d (x / 10))) ∙ e)

pub decimal_all : (x : ℕ) → AllDigits (decimal x)
unfolding decimal
decimal_all x = digits_all 20 x

pub decimal_some : (x : ℕ) → 0 < length (decimal x)
unfolding decimal
decimal_some x = digits_some 19 x

pub decimal_value : (x : ℕ) → x < 2 ^ 64 → value_from 0 (decimal x) ≡ x
unfolding decimal
decimal_value x h = digits_value 19 x (omega arith)

pub decimal_first : (x : ℕ) → x < 2 ^ 64 → get_or (decimal x) 0 0 ≡ 48 → length (decimal x) ≡ 1
unfolding decimal
decimal_first x h e = go (dec_lt 0 x)
  where
    go : Dec (0 < x) → length (digits 20 x) ≡ 1
    go (yes l) = absurd (digits_first 19 x l (omega arith) e)
    go (no l) = ap length (digits_one 19 x (omega arith))

-- ---- digits that are read

value_grows : (v : ℕ) (s : List ℕ) → v ≤ value_from v s
unfolding value_from
value_grows v [] = omega arith
value_grows v (b ∷ s) = go (is_digit b) refl (value_grows (v * 10 + (b - 48)) s)
  where
    go : (t : Bool) → is_digit b ≡ t → v * 10 + (b - 48) ≤ value_from (v * 10 + (b - 48)) s → v ≤ value_from v (b ∷ s)
    go true e h = rw e (omega arith)
    go false e h = rw e (omega arith)

-- digits behind those of a number that is not 0
decimal_behind : (p : List ℕ) (v : ℕ) (s : List ℕ) → decimal v ≡ p → 0 < v → AllDigits s → value_from v s < 2 ^ 64 → decimal (value_from v s) ≡ p ++ s
unfolding value_from
decimal_behind p v [] e l none h = e ∙ sym (append-nil p)
decimal_behind p v (b ∷ s) e l (more d g) h =
    let known = digit_known b d in
    let w = v * 10 + (b - 48) in
    let low : value_from w s < 2 ^ 64 = rw (value_more b s v d) at h in
    let quotient : w / 10 ≡ v = omega arith in
    let last : 48 + w % 10 ≡ b = omega arith in
    let next : decimal w ≡ p ++ (b ∷ []) =
    decimal_ten w (omega arith) (omega (arith, value_grows w s)) ∙ cc (ap decimal quotient, e) in
    ap decimal (value_more b s v d) ∙ decimal_behind (p ++ (b ∷ [])) w s next (omega arith) g low ∙ append_assoc p (b ∷ []) s

first_digit : (b v : ℕ) → is_digit b ≡ true → v ≡ 0 * 10 + (b - 48) → decimal v ≡ b ∷ []
first_digit b v d e =
    let known = digit_known b d in
    let is : 48 + v ≡ b = omega arith in
    decimal_one v (omega arith) ∙ ap (λ (x : ℕ). x ∷ []) is

pub decimal_digits : (b : ℕ) (s : List ℕ) → AllDigits (b ∷ s) → (b ≡ 48 → length s ≡ 0) → value_from 0 (b ∷ s) < 2 ^ 64
    → decimal (value_from 0 (b ∷ s)) ≡ b ∷ s
unfolding value_from
decimal_digits b [] (more d g) only h = ap decimal (value_more b [] 0 d) ∙ first_digit b _ d refl
decimal_digits b (x ∷ s) (more d g) only h = go (dec_lt 48 b)
  where
    go : Dec (48 < b) → decimal (value_from 0 (b ∷ x ∷ s)) ≡ b ∷ x ∷ s
    go (yes l) =
        ap decimal (value_more b (x ∷ s) 0 d)
        ∙ decimal_behind (b ∷ []) (0 * 10 + (b - 48)) (x ∷ s) (first_digit b _ d refl) (omega arith) g (rw (value_more b (x ∷ s) 0 d) at h)
    go (no l) = let known = digit_known b d in absurd (omega (arith, only (omega arith)))
