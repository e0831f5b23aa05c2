-- Points and symbols in bytes, over the width and the layout: how a byte is packed, how a number is read out of bytes, and what bits the bytes of a slip have.
use Prim.Native.Nat.{ℕ, ◌+◌, ◌*◌, ◌-◌, ◌/◌, ◌%◌, ◌^◌, ◌<◌, ◌≤◌}
use mathlib.Core.Path.{◌≡◌, refl, ap, sym, ◌∙◌}
use mathlib.Core.List.{List, ◌++◌}
use native.Mathlib.Nat.{zero-add, mul-zero, mul-one, mul-add, mul_assoc, mul-le-mul_left, mod-eq_of_lt, lt_of_lt_of_le}
use native.Mathlib.Omega.{arith}
use lib.Dec.{lit<}
use lib.ListN.{length, get_or}
use lib.Pow.{pow_mono}
use Rattle.defs.specs.Field.{Width}
use Rattle.defs.specs.Place.{tab, Symbols}
use Rattle.defs.specs.Slip.{all_bits, number_at, head_bits, slip_bits}
use Rattle.defs.specs.declared.Layout.{Layout}
use Rattle.theory.proofs.Place.{tab_same}
use Rattle.theory.proofs.Width.{by_width}
use Rattle.slip.specs.Laid.{Laid}
use Rattle.slip.specs.Head.{header_bits}
use Rattle.slip.proofs.Bits.{length_all_bits, symbols_append, all_bits_are, number_same, number_below, number_split, number_inside, number_front, number_behind, number_beyond, number_symbol, symbols_told}
use Rattle.slip.proofs.HeaderBits.{header_length, header_are, header_first}

-- ---- a byte packed, a symbol a turn; j of its symbols are in it

whole : (m : ℕ) → Width m → m * (8 / m) ≡ 8
whole = by_width (λ m. m * (8 / m) ≡ 8) refl refl refl

module _ (m i : ℕ) (s : List ℕ) (w : Width m) where
  pub pack_first : 0 ≡ number_at (m * 0) (8 * i) (all_bits m s)
  unfolding number_at
  pack_first = rw mul-zero

  pub pack_turn : Symbols m s → (j byte : ℕ) → byte ≡ number_at (m * j) (8 * i) (all_bits m s)
      → byte * 2 ^ m + get_or s (8 / m * i + j) 0 ≡ number_at (m * (j + 1)) (8 * i) (all_bits m s)
  pack_turn h j byte e =
      let here : 8 * i + m * j ≡ m * (8 / m * i + j) = rw (mul-add, ← mul_assoc, whole m w) in
      rw (mul-add m j 1, mul-one, number_split (m * j) m (8 * i) (all_bits m s), here, number_symbol m s (8 / m * i + j), mod-eq_of_lt (h (8 / m * i + j)), e)

  pub pack_last : (j byte : ℕ) → j ≡ 8 / m → byte ≡ number_at (m * j) (8 * i) (all_bits m s) → byte ≡ number_at 8 (8 * i) (all_bits m s)
  pack_last j byte l e = e ∙ rw (l, whole m w)

  pub pack_small : (j byte : ℕ) → j ≤ 8 / m → byte ≡ number_at (m * j) (8 * i) (all_bits m s) → byte < 256
  pack_small j byte l e =
      rw e
      (lt_of_lt_of_le (number_below (m * j) (8 * i) (all_bits m s) (all_bits_are m s))
      (pow_mono {j = 8} (omega (arith, whole m w, mul-le-mul_left {m = j} {n = 8 / m} m l))))

-- ---- a number in bytes

pub byte_is : (bytes : List ℕ) → Symbols 8 bytes → (q : ℕ) → number_at 8 (8 * q) (all_bits 8 bytes) ≡ get_or bytes q 0
byte_is bytes s q = number_symbol 8 bytes q ∙ mod-eq_of_lt (s q)

pub byte_none : (bytes : List ℕ) (q : ℕ) → length bytes ≤ q → 0 ≡ number_at 8 (8 * q) (all_bits 8 bytes)
byte_none bytes q l = sym (number_beyond 8 (8 * q) (all_bits 8 bytes) (omega (arith, length_all_bits 8 bytes)))

-- one of at most eight bits stands in a byte and the one behind it: what is behind the number is divided away, what is before it is cut off
pub number_read : (w p : ℕ) (s : List ℕ) → Symbols 1 s → w ≤ 8 → (a b : ℕ) → a ≡ number_at 8 (8 * (p / 8)) s → b ≡ number_at 8 (8 * (p / 8 + 1)) s
    → (a * 256 + b) / 2 ^ (16 - w - p % 8) % 2 ^ w ≡ number_at w p s
number_read w p s h l a b first second =
    let e : p % 8 + (w + (16 - w - p % 8)) ≡ 16 = omega arith in
    let f : 8 * (p / 8) + p % 8 ≡ p = omega arith in
    let g : 8 * (p / 8 + 1) ≡ 8 * (p / 8) + 8 = omega arith in
    let pair : number_at 16 (8 * (p / 8)) s ≡ a * 256 + b = number_split 8 8 (8 * (p / 8)) s ∙ rw (first, second, g) in
    ap (λ (x : ℕ). x / 2 ^ (16 - w - p % 8) % 2 ^ w) (sym pair)
    ∙ number_inside (p % 8) w (16 - w - p % 8) 16 (8 * (p / 8)) s e h
    ∙ ap (λ (x : ℕ). number_at w x s) f

-- ---- the bits of bytes that were made of bits

-- bit p of them is bit p
bit_back : (n p : ℕ) (s : List ℕ) → Symbols 1 s → p < 8 * n → get_or (all_bits 8 (tab (λ i. number_at 8 (8 * i) s) n)) p 0 ≡ get_or s p 0
bit_back n p s h l =
    ap (λ (t : List ℕ). get_or (all_bits 8 t) p 0) (tab_same _ _ n (λ i b. rw (zero-add (8 * i)))) ∙ symbols_told 8 0 n s (lit< tt) h p l ∙ ap (λ (x : ℕ). get_or s x 0) (zero-add p)

-- so every field is there again
pub number_back : (w p n : ℕ) (s : List ℕ) → Symbols 1 s → p + w ≤ 8 * n → number_at w p (all_bits 8 (tab (λ i. number_at 8 (8 * i) s) n)) ≡ number_at w p s
number_back w p n s h l = number_same w p p (all_bits 8 (tab (λ i. number_at 8 (8 * i) s) n)) s (λ i k. bit_back n (p + i) s h (omega arith))

-- ---- the header and what is behind it

module _ (L : Layout) (m r k : ℕ) (points w : List ℕ) where
  abbrev H : List ℕ
  H = header_bits L m r k (length points)

  pub slip_bits_are : Symbols 1 (slip_bits L m r k points w)
  slip_bits_are = rw (header_first L m r k points w) (symbols_append 1 H (all_bits m (points ++ w)) (header_are L m r k (length points)) (all_bits_are m (points ++ w)))

  pub in_header : (v p : ℕ) → p + v ≤ head_bits L → number_at v p (slip_bits L m r k points w) ≡ number_at v p H
  in_header v p l =
      rw (header_first L m r k points w) (number_front v p H (all_bits m (points ++ w)) (omega (arith, header_length L m r k (length points))))

  pub behind_header : (v p : ℕ) → number_at v (head_bits L + p) (slip_bits L m r k points w) ≡ number_at v p (all_bits m (points ++ w))
  behind_header v p =
      rw (header_first L m r k points w) (number_behind v p (head_bits L) H (all_bits m (points ++ w)) (header_length L m r k (length points)))

  -- the two kinds of byte
  module _ (laid : Laid L) (i : ℕ) where
    pub header_byte : (h : ℕ) → i < head_bits L / 8 → h ≡ number_at (head_bits L) 0 H
        → h / 2 ^ (8 * (head_bits L / 8 - 1 - i)) % 256 ≡ number_at 8 (8 * i) (slip_bits L m r k points w)
    header_byte h l e =
        let n = head_bits L / 8 in
        let split : 8 * i + (8 + 8 * (n - 1 - i)) ≡ head_bits L = omega (arith, laid.whole) in
        rw (e, number_inside (8 * i) 8 (8 * (n - 1 - i)) (head_bits L) 0 H split (header_are L m r k (length points)), zero-add)
        (sym (in_header 8 (8 * i) (omega arith)))

    pub body_byte : head_bits L / 8 ≤ i → number_at 8 (8 * (i - head_bits L / 8)) (all_bits m (points ++ w)) ≡ number_at 8 (8 * i) (slip_bits L m r k points w)
    body_byte l =
        let e : 8 * i ≡ head_bits L + 8 * (i - head_bits L / 8) = omega (arith, laid.whole) in
        rw e (sym (behind_header 8 (8 * (i - head_bits L / 8))))
