-- The header has 3 bytes in edition 1 and 4 in edition 2: what stands behind it changes none of its numbers.
use Prim.Native.Nat.{ℕ, ◌+◌, ◌*◌, ◌/◌, ◌<◌, ◌≤◌}
use mathlib.Core.Path.{◌≡◌, refl, ap, sym, ◌∙◌}
use mathlib.Core.List.{List, [], ◌∷◌, ◌++◌, append_assoc}
use native.Mathlib.Omega.{arith}
use lib.ListN.{length, take, drop, take-append-drop}
use lib.Seq.{length-take-le}
use Rattle.defs.specs.Slip.{all_bits, number_at, layout_of, head_bits, edition_in, layout_in, width_in, depth_in, count_in, dimension_in, size_in}
use Rattle.slip.proofs.Bits.{length_all_bits, number_front}
use Rattle.slip.proofs.Reader.{numbers_in, laid_in}

all_bits_append : (w : ℕ) (s t : List ℕ) → all_bits w (s ++ t) ≡ all_bits w s ++ all_bits w t
unfolding all_bits
all_bits_append w [] t = refl
all_bits_append w (x ∷ s) t = rw (all_bits_append w s t, append_assoc)

-- the bytes of a header of this edition
abbrev pub head_bytes : List ℕ → ℕ
head_bytes bytes = head_bits (layout_in bytes) / 8

-- the numbers in the headers of two
pub record SameHead (a b : List ℕ) : Type 0 where
  pub edition : edition_in a ≡ edition_in b
  pub width : width_in a ≡ width_in b
  pub depth : depth_in a ≡ depth_in b
  pub count : count_in a ≡ count_in b
  pub dimension : dimension_in a ≡ dimension_in b

pub editions_same : (a b : List ℕ) → edition_in a ≡ edition_in b → layout_in a ≡ layout_in b
unfolding layout_in
editions_same a b e = ap layout_of e

-- and so what is worked out from them
module _ {a b : List ℕ} (h : SameHead a b) where
  pub layout_same : layout_in a ≡ layout_in b
  layout_same = editions_same a b h.edition

  pub size_same : size_in a ≡ size_in b
  unfolding size_in
  size_same = rw (layout_same, h.width, h.depth, h.count)

  pub numbers_same : numbers_in a ≡ numbers_in b
  numbers_same = rw (layout_same, h.width, h.depth, h.dimension, h.count)

-- two whose fields are the same bits
pub fields_head : (a b : List ℕ)
    → ((v p : ℕ) → p + v ≤ 9 + (layout_in b).countbits + (layout_in b).kbits → number_at v p (all_bits 8 a) ≡ number_at v p (all_bits 8 b)) → SameHead a b
unfolding edition_in layout_in width_in depth_in count_in dimension_in
fields_head a b same =
    let edition : edition_in a ≡ edition_in b = same 4 0 (omega arith) in
    let L : layout_in a ≡ layout_in b = editions_same a b edition in
    record {
      edition = edition;
      width = rw (same 2 4 (omega arith));
      depth = rw (same 3 6 (omega arith));
      count = rw (L, same (layout_in b).countbits 9 (omega arith));
      dimension = rw (L, same (layout_in b).kbits (9 + (layout_in b).countbits) (omega arith));
    }

-- a header that stands whole in front of something
module _ (s t : List ℕ) where
  field_front : (v p : ℕ) → p + v ≤ 8 * length s → number_at v p (all_bits 8 (s ++ t)) ≡ number_at v p (all_bits 8 s)
  field_front v p l = rw (all_bits_append 8 s t) (number_front v p (all_bits 8 s) (all_bits 8 t) (omega (arith, length_all_bits 8 s)))

  pub edition_front : 0 < length s → edition_in (s ++ t) ≡ edition_in s
  unfolding edition_in
  edition_front some = field_front 4 0 (omega arith)

  pub head_front : head_bytes s ≤ length s → SameHead (s ++ t) s
  unfolding head_bits
  head_front whole = fields_head (s ++ t) s (λ v p l. field_front v p (omega (arith, (laid_in s).whole)))

  pub head_part : head_bytes (s ++ t) ≤ length s → SameHead (s ++ t) s
  unfolding edition_in
  head_part whole =
      let L : layout_in (s ++ t) ≡ layout_in s = editions_same (s ++ t) s (field_front 4 0 (omega (arith, (laid_in (s ++ t)).bytes_bottom))) in
      head_front (rw L at whole)

-- the first bytes, with the header among them
module _ (n : ℕ) (a : List ℕ) (l : n ≤ length a) where
  pub head_kept : head_bytes a ≤ n → SameHead a (take n a)
  head_kept h =
      let whole : head_bytes (take n a ++ drop n a) ≤ length (take n a) = rw (take-append-drop n a) (omega (arith, length-take-le n a l)) in
      rw (take-append-drop n a) at (head_part (take n a) (drop n a) whole)

  head_taken : head_bytes (take n a) ≤ n → SameHead a (take n a)
  head_taken h =
      let whole : head_bytes (take n a) ≤ length (take n a) = omega (arith, length-take-le n a l) in
      rw (take-append-drop n a) at (head_front (take n a) (drop n a) whole)

pub head_same : (n : ℕ) (a b : List ℕ) → head_bytes a ≤ n → n ≤ length a → n ≤ length b → take n a ≡ take n b → SameHead a b
head_same n a b l la lb e =
    let p = head_kept n a la l in
    let short : head_bytes (take n b) ≤ n = rw (layout_same p, e) at l in
    let q : SameHead b (take n a) = rw e (head_taken n b lb short) in
    record {
      edition = p.edition ∙ sym q.edition;
      width = p.width ∙ sym q.width;
      depth = p.depth ∙ sym q.depth;
      count = p.count ∙ sym q.count;
      dimension = p.dimension ∙ sym q.dimension;
    }
