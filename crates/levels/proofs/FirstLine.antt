-- The first line of a text: what its digits are, when it is written as it must be, and what stands behind it.
use Prim.Native.Nat.{ℕ, suc, ◌≤◌, ◌<◌, zero-le, suc-le-suc}
use mathlib.Core.Bool.{Bool, true, false, cond, ◌&&◌, ◌||◌, not, and-false}
use mathlib.Core.Path.{◌≡◌, refl, ap, sym, ◌∙◌}
use mathlib.Core.List.{List, [], ◌∷◌, ◌++◌}
use native.Mathlib.Omega.{arith}
use lib.Dec.{eqb, ltb}
use lib.ListN.{length, get_or, take, drop, length-append, get_or-eq_default}
use native.Mathlib.Decide.{dec_lt}
use borrow.Author.Tests.{eqb-true, eqb-false, eq-eqb, ne_eqb, ltb-true, lt-ltb, le-ltb}
use Rattle.defs.specs.Text.{is_digit, digit_count, value_from}
use Rattle.defs.specs.Levels.{line_from, lines, written}
use Rattle.theory.proofs.Verdict.{apart}
use Rattle.levels.specs.Lines.{head_line, behind}

-- a newline is no digit
newline_other : is_digit 10 ≡ false
unfolding is_digit
newline_other = refl

-- a byte is a newline, a digit or neither
data Kind (b : ℕ) : Type 0 where
  newline : eqb b 10 ≡ true → is_digit b ≡ false → Kind b
  digit : eqb b 10 ≡ false → is_digit b ≡ true → Kind b
  other : eqb b 10 ≡ false → is_digit b ≡ false → Kind b

kind : (b : ℕ) → Kind b
kind b = go (eqb b 10) refl (is_digit b) refl
  where
    go : (n : Bool) → eqb b 10 ≡ n → (d : Bool) → is_digit b ≡ d → Kind b
    go true e d f = newline e (ap is_digit (eqb-true b 10 e) ∙ newline_other)
    go false e true f = digit e f
    go false e false f = other e f

-- ---- the lines of a text are its first line and those behind it

pub lines_none : lines [] ≡ []
unfolding lines
lines_none = refl

lines_front : (b : ℕ) (s : List ℕ) → line_from b (lines s) ≡ (b ∷ head_line s) ∷ lines (behind s) → lines (b ∷ s) ≡ head_line (b ∷ s) ∷ lines (behind (b ∷ s))
unfolding lines head_line behind
lines_front b s e = go (eqb b 10)
  where
    go : (n : Bool) → cond n ((b ∷ []) ∷ lines s) (line_from b (lines s)) ≡ cond n (b ∷ []) (b ∷ head_line s) ∷ lines (cond n s (behind s))
    go true = refl
    go false = e

pub lines_head : (b : ℕ) (s : List ℕ) → lines (b ∷ s) ≡ head_line (b ∷ s) ∷ lines (behind (b ∷ s))
unfolding line_from head_line behind lines
lines_head b [] = lines_front b [] refl
lines_head b (d ∷ s) = lines_front b (d ∷ s) (rw (lines_head d s))

pub head_behind : (s : List ℕ) → head_line s ++ behind s ≡ s
unfolding head_line behind
head_behind [] = refl
head_behind (b ∷ s) = go (eqb b 10) (head_behind s)
  where
    go : (n : Bool) → head_line s ++ behind s ≡ s → cond n (b ∷ []) (b ∷ head_line s) ++ cond n s (behind s) ≡ b ∷ s
    go true e = refl
    go false e = ap (λ (t : List ℕ). b ∷ t) e

head_some : (b : ℕ) (s : List ℕ) → 0 < length (head_line (b ∷ s))
unfolding head_line
head_some b s = go (eqb b 10)
  where
    go : (n : Bool) → 0 < length (cond n (b ∷ []) (b ∷ head_line s))
    go true = omega arith
    go false = omega arith

pub behind_short : (s : List ℕ) → 0 < length s → length (behind s) < length s
behind_short [] l = absurd (omega arith)
behind_short (b ∷ s) l = go (head_some b s) (head_behind (b ∷ s))
  where
    go : 0 < length (head_line (b ∷ s)) → head_line (b ∷ s) ++ behind (b ∷ s) ≡ b ∷ s → length (behind (b ∷ s)) < length (b ∷ s)
    go p e = omega (arith, ap length e, length-append (head_line (b ∷ s)) (behind (b ∷ s)))

-- ---- the digits in front of it are those in front of the text

pub head_count : (s : List ℕ) → digit_count (head_line s) ≡ digit_count s
unfolding head_line digit_count
head_count [] = refl
head_count (b ∷ s) = go (kind b) (head_count s)
  where
    go : Kind b → digit_count (head_line s) ≡ digit_count s → digit_count (head_line (b ∷ s)) ≡ digit_count (b ∷ s)
    go (newline e f) ih = rw (e, f)
    go (digit e f) ih = rw (e, f) (ap suc ih)
    go (other e f) ih = rw (e, f)

pub head_value : (s : List ℕ) (v : ℕ) → value_from v (head_line s) ≡ value_from v s
unfolding head_line value_from
head_value [] v = refl
head_value (b ∷ s) v = go (kind b) (head_value s)
  where
    go : Kind b → ((v : ℕ) → value_from v (head_line s) ≡ value_from v s) → value_from v (head_line (b ∷ s)) ≡ value_from v (b ∷ s)
    go (newline e f) ih = rw (e, f)
    go (digit e f) ih = rw (e, f) (ih _)
    go (other e f) ih = rw (e, f)

-- the byte behind them, too
head_stop : (s : List ℕ) → get_or (head_line s) (digit_count s) 0 ≡ get_or s (digit_count s) 0
unfolding head_line digit_count
head_stop [] = refl
head_stop (b ∷ s) = go (kind b) (head_stop s)
  where
    go : Kind b → get_or (head_line s) (digit_count s) 0 ≡ get_or s (digit_count s) 0
        → get_or (head_line (b ∷ s)) (digit_count (b ∷ s)) 0 ≡ get_or (b ∷ s) (digit_count (b ∷ s)) 0
    go (newline e f) ih = rw (e, f)
    go (digit e f) ih = rw (e, f) ih
    go (other e f) ih = rw (e, f)

head_first : (s : List ℕ) → get_or (head_line s) 0 0 ≡ get_or s 0 0
unfolding head_line
head_first [] = refl
head_first (b ∷ s) = go (eqb b 10)
  where
    go : (n : Bool) → get_or (cond n (b ∷ []) (b ∷ head_line s)) 0 0 ≡ b
    go true = refl
    go false = refl

pub count_within : (s : List ℕ) → digit_count s ≤ length s
unfolding digit_count
count_within [] = zero-le
count_within (b ∷ s) = go (is_digit b) (count_within s)
  where
    go : (d : Bool) → digit_count s ≤ length s → cond d (suc (digit_count s)) 0 ≤ suc (length s)
    go true h = suc-le-suc h
    go false h = zero-le

-- ---- a newline behind them ends the line

pub newline_within : (s : List ℕ) (i : ℕ) → get_or s i 0 ≡ 10 → i < length s
newline_within s i e = go (dec_lt i (length s))
  where
    go : Dec (i < length s) → i < length s
    go (yes l) = l
    go (no n) = let z : get_or s i 0 ≡ 0 = get_or-eq_default s 0 {n = i} (omega arith) in absurd (omega arith)

pub ended_behind : (s : List ℕ) → get_or s (digit_count s) 0 ≡ 10 → behind s ≡ drop (suc (digit_count s)) s
unfolding behind digit_count
ended_behind [] h = refl
ended_behind (b ∷ s) h = go (kind b) h (ended_behind s)
  where
    go : Kind b → get_or (b ∷ s) (digit_count (b ∷ s)) 0 ≡ 10 → (get_or s (digit_count s) 0 ≡ 10 → behind s ≡ drop (suc (digit_count s)) s)
        → behind (b ∷ s) ≡ drop (suc (digit_count (b ∷ s))) (b ∷ s)
    go (newline e f) h ih = rw (e, f)
    go (digit e f) h ih = rw (e, f) (ih (rw f at h))
    go (other e f) h ih = absurd (eqb-false b 10 e (rw f at h))

pub ended_head : (s : List ℕ) → get_or s (digit_count s) 0 ≡ 10 → head_line s ≡ take (digit_count s) s ++ (10 ∷ [])
unfolding head_line digit_count
ended_head [] h = absurd (omega arith)
ended_head (b ∷ s) h = go (kind b) h (ended_head s)
  where
    go : Kind b → get_or (b ∷ s) (digit_count (b ∷ s)) 0 ≡ 10 → (get_or s (digit_count s) 0 ≡ 10 → head_line s ≡ take (digit_count s) s ++ (10 ∷ []))
        → head_line (b ∷ s) ≡ take (digit_count (b ∷ s)) (b ∷ s) ++ (10 ∷ [])
    go (newline e f) h ih = rw (e, f) (ap (λ (x : ℕ). x ∷ []) (eqb-true b 10 e))
    go (digit e f) h ih = rw (e, f) (ap (λ (t : List ℕ). b ∷ t) (ih (rw f at h)))
    go (other e f) h ih = absurd (eqb-false b 10 e (rw f at h))

-- ---- when the first line is written as it must be, by the bytes of the text

module _ (s : List ℕ) where
  pub written_is : written (head_line s) ≡ ltb 0 (digit_count s) && ((not (eqb (get_or s 0 0) 48) || eqb (digit_count s) 1) && eqb (get_or s (digit_count s) 0) 10)
  unfolding written
  written_is = rw (head_count s, head_stop s, head_first s)

  pub no_digits : digit_count s ≡ 0 → written (head_line s) ≡ false
  no_digits e = written_is ∙ rw (le-ltb 0 (digit_count s) (omega arith))

  pub no_newline : (get_or s (digit_count s) 0 ≡ 10 → ⊥) → written (head_line s) ≡ false
  no_newline n = written_is ∙ rw (ne_eqb _ 10 n) (go (ltb 0 (digit_count s)) (not (eqb (get_or s 0 0) 48) || eqb (digit_count s) 1))
    where
      go : (a b : Bool) → a && (b && false) ≡ false
      go true b = and-false b
      go false b = refl

  module _ (some : 0 < digit_count s) (ends : get_or s (digit_count s) 0 ≡ 10) where
    pub no_zero : (get_or s 0 0 ≡ 48 → ⊥) → written (head_line s) ≡ true
    no_zero n = written_is ∙ rw (lt-ltb 0 (digit_count s) some, ne_eqb (get_or s 0 0) 48 n, eq-eqb (get_or s (digit_count s) 0) 10 ends)

    pub zero_first : get_or s 0 0 ≡ 48 → written (head_line s) ≡ eqb (digit_count s) 1
    zero_first e =
        written_is ∙ rw (lt-ltb 0 (digit_count s) some, eq-eqb (get_or s 0 0) 48 e, eq-eqb (get_or s (digit_count s) 0) 10 ends) (go (eqb (digit_count s) 1))
      where
        go : (b : Bool) → b && true ≡ b
        go true = refl
        go false = refl

  -- what is known of a line that is
  pub written_known : written (head_line s) ≡ true
      → (0 < digit_count s) × (get_or s (digit_count s) 0 ≡ 10) × ((get_or s 0 0 ≡ 48) → digit_count s ≡ 1)
  written_known e = go (ltb 0 (digit_count s)) refl (eqb (get_or s 0 0) 48) refl (eqb (digit_count s) 1) refl (eqb (get_or s (digit_count s) 0) 10) refl (sym written_is ∙ e)
    where
      go : (a : Bool) → ltb 0 (digit_count s) ≡ a → (b : Bool) → eqb (get_or s 0 0) 48 ≡ b → (d : Bool) → eqb (digit_count s) 1 ≡ d
          → (n : Bool) → eqb (get_or s (digit_count s) 0) 10 ≡ n → a && ((not b || d) && n) ≡ true
          → (0 < digit_count s) × (get_or s (digit_count s) 0 ≡ 10) × ((get_or s 0 0 ≡ 48) → digit_count s ≡ 1)
      go true p true q true t true u f = (ltb-true 0 _ p, eqb-true _ 10 u, λ z. eqb-true _ 1 t)
      go true p false q d t true u f = (ltb-true 0 _ p, eqb-true _ 10 u, λ z. absurd (eqb-false _ 48 q z))
      go true p true q false t n u f = absurd (apart cc)
      go true p true q true t false u f = absurd (apart cc)
      go true p false q d t false u f = absurd (apart cc)
      go false p b q d t n u f = absurd (apart cc)
