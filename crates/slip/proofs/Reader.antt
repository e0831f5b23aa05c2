-- The ways out of the slip reader, and what its own functions rely on.
use Prim.Native.Nat.{ℕ, ◌+◌, ◌*◌, ◌/◌, ◌<◌, ◌≤◌}
use mathlib.Core.Path.{◌≡◌, refl, ap, sym, ◌∙◌}
use mathlib.Core.Bool.{true, false, ◌||◌}
use mathlib.Core.List.{List}
use native.Mathlib.Omega.{arith}
use lib.Dec.{eqb, ltb}
use lib.ListN.{length}
use borrow.Author.Tests.{lt-ltb, le-ltb, ltb-false, not-false, eq-eqb}
use Rattle.defs.specs.Refusal.{refuse, and_then, kept, Verdict, fine}
use Rattle.defs.specs.Limits.{longest, numbers_verdict, first_twice}
use Rattle.defs.specs.Slip.{all_bits, number_at, width_of, is_edition, layout_of, head_bits, slip_size, longest_slip, edition_in, layout_in, width_in, depth_in, count_in, dimension_in, size_in, points_in, row_in, spare_in, fill_in}
use Rattle.defs.specs.Write.{front}
use Rattle.defs.specs.Read.{first_verdict_of, first_verdict, head_verdict, read_verdict, reading, Read}
use Rattle.defs.specs.declared.Layout.{Layout}
use Rattle.defs.specs.declared.Refusal.{Refusal}
use Rattle.defs.specs.declared.Refusal.TheVariants.{Field, PointTwice, Length, SlipShort, Edition as Unknown, SlipLong, SlipBits}
use Rattle.defs.specs.declared.SlipRead.{SlipRead}
use Rattle.theory.specs.Limits.{Numbers}
use Rattle.theory.proofs.Limits.{numbers_known, count_small}
use Rattle.theory.proofs.Width.{width_top}
use native.Mathlib.Nat.{mul-le-mul}
use Rattle.code.specs.Checked.{found}
use Rattle.theory.proofs.Verdict.{apart, or_false, refuse_fine, then_fine}
use Rattle.slip.specs.declared.layout.Edition.{Edition}
use Rattle.slip.specs.declared.read.Reader.{Reader}
use Rattle.slip.specs.Laid.{Laid}
use Rattle.slip.specs.Edition.{number, layout}
use Rattle.slip.specs.Head.{Heads}
use Rattle.slip.proofs.Bits.{all_bits_are, number_below}
use Rattle.slip.proofs.Layouts.{laid, size_top}
use Rattle.std.proofs.Common.{Bool, Some, None, ltb-true, Err, Ok}

-- ---- the checks of header and size

-- 1, 3 and 4 on what stands in a header
abbrev pub numbers_in : List ℕ → Verdict
numbers_in bytes = numbers_verdict (layout_in bytes).top (width_in bytes) (depth_in bytes) (dimension_in bytes) (count_in bytes)

pub laid_in : (bytes : List ℕ) → Laid (layout_in bytes)
unfolding layout_in
laid_in bytes = laid (edition_in bytes)

-- an edition has four bits
pub edition_low : (bytes : List ℕ) → edition_in bytes < 16
unfolding edition_in
edition_low bytes = number_below 4 0 (all_bits 8 bytes) (all_bits_are 8 bytes)

-- a header is read field by field
pub heads_told : (bytes : List ℕ) (E : Edition) (L : Layout) (code m r count k : ℕ)
    → number E ≡ edition_in bytes → L ≡ layout E → code ≡ number_at 2 4 (all_bits 8 bytes) → m ≡ width_of code
    → r ≡ number_at 3 6 (all_bits 8 bytes) → count ≡ number_at L.countbits 9 (all_bits 8 bytes)
    → k ≡ number_at L.kbits (9 + L.countbits) (all_bits 8 bytes)
    → Heads bytes E m (r + 1) (count + 1) (k + 1)
unfolding layout_in width_in depth_in count_in dimension_in
heads_told bytes E L code m r count k e l f w d c q =
    let at : L ≡ layout_of (edition_in bytes) = l ∙ ap layout_of e in
    record { edition_is = e; m_is = rw (w, f); r_is = rw d; count_is = rw (c, at); k_is = rw (q, at) }

-- what stands in a header says what the layout, the verdict on its numbers and the size are
module _ {bytes : List ℕ} {E : Edition} {m r count k : ℕ} (s : Heads bytes E m r count k) where
  pub layout_is : layout E ≡ layout_in bytes
  unfolding layout_in
  layout_is = ap layout_of s.edition_is

  pub numbers_inside : numbers_verdict (layout E).top m r k count ≡ numbers_in bytes
  numbers_inside = rw (layout_is, s.m_is, s.r_is, s.k_is, s.count_is)

  pub size_inside : slip_size (layout E) m (count + r * count) ≡ size_in bytes
  unfolding size_in
  size_inside = rw (layout_is, s.m_is, s.r_is, s.count_is)

-- a header whose numbers are fine
module _ (bytes : List ℕ) (e : numbers_in bytes ≡ fine) where
  pub numbers_are : Numbers (width_in bytes) (depth_in bytes) (dimension_in bytes) (count_in bytes)
  numbers_are = numbers_known (layout_in bytes).top _ _ _ _ (laid_in bytes).top_low e

  pub symbols_few : count_in bytes + depth_in bytes * count_in bytes ≤ 2 * longest
  symbols_few = omega (arith, count_small numbers_are, numbers_are.row_top)

  -- it asks for no more bytes than the longest slip has
  pub header_top : size_in bytes ≤ longest_slip
  unfolding size_in
  header_top = size_top (layout_in bytes) (laid_in bytes) (width_in bytes) (count_in bytes + depth_in bytes * count_in bytes) numbers_are.width symbols_few

module _ (bytes : List ℕ) where
  pub first_short : length bytes < 3 → Err SlipShort ≡ first_verdict bytes
  unfolding first_verdict_of refuse
  first_short l = rw (lt-ltb (length bytes) 3 l)

  module _ (long : 3 ≤ length bytes) where
    pub first_edition : is_edition (edition_in bytes) ≡ false → Err Unknown ≡ first_verdict bytes
    unfolding first_verdict_of refuse
    first_edition n = rw (le-ltb (length bytes) 3 long, n)

    module _ (known : is_edition (edition_in bytes) ≡ true) where
      pub first_cut : length bytes < head_bits (layout_in bytes) / 8 → Err SlipShort ≡ first_verdict bytes
      unfolding first_verdict_of refuse
      first_cut l = rw (le-ltb (length bytes) 3 long, known, lt-ltb (length bytes) (head_bits (layout_in bytes) / 8) l)

      -- a header that is there, of a known edition, is judged by its numbers and its size
      module _ (whole : head_bits (layout_in bytes) / 8 ≤ length bytes) where
        by_numbers : first_verdict bytes ≡ and_then (numbers_in bytes) (refuse (ltb (length bytes) (size_in bytes)) SlipShort fine)
        unfolding first_verdict_of refuse
        by_numbers = rw (le-ltb (length bytes) 3 long, known, le-ltb (length bytes) (head_bits (layout_in bytes) / 8) whole)

        pub first_numbers : (x : Refusal) → numbers_in bytes ≡ Err x → Err x ≡ first_verdict bytes
        unfolding and_then
        first_numbers x v = sym (by_numbers ∙ rw v)

        pub first_field : width_in bytes ≡ 0 → Err Field ≡ first_verdict bytes
        unfolding numbers_verdict refuse
        first_field e = first_numbers Field (rw e)

        pub first_small : numbers_in bytes ≡ fine → length bytes < size_in bytes → Err SlipShort ≡ first_verdict bytes
        unfolding and_then refuse
        first_small f l = sym (by_numbers ∙ rw (f, lt-ltb (length bytes) (size_in bytes) l))

  -- the same, and then 12
  pub head_first : (x : Refusal) → first_verdict bytes ≡ Err x → Err x ≡ head_verdict bytes
  unfolding head_verdict and_then
  head_first x e = rw e

  module _ (e : first_verdict bytes ≡ fine) where
    pub head_large : size_in bytes < length bytes → Err SlipLong ≡ head_verdict bytes
    unfolding head_verdict and_then refuse
    head_large l = rw (e, lt-ltb (size_in bytes) (length bytes) l)

    pub head_fine : length bytes ≤ size_in bytes → fine ≡ head_verdict bytes
    unfolding head_verdict and_then refuse
    head_fine l = rw (e, le-ltb (size_in bytes) (length bytes) l)

-- what they show of bytes that begin with a slip, and of a slip
pub record Begins (bytes : List ℕ) : Type 0 where
  pub long : 3 ≤ length bytes
  pub known : is_edition (edition_in bytes) ≡ true
  pub whole : head_bits (layout_in bytes) / 8 ≤ length bytes
  pub is_fine : numbers_in bytes ≡ fine
  pub size : size_in bytes ≤ length bytes

pub begins : (bytes : List ℕ) → first_verdict bytes ≡ fine → Begins bytes
unfolding first_verdict_of
begins bytes e =
    let e1 = refuse_fine _ _ _ e in
    let e2 = refuse_fine _ _ _ e1.1 in
    let e3 = refuse_fine _ _ _ e2.1 in
    let e4 = then_fine (numbers_in bytes) _ e3.1 in
    let e5 = refuse_fine _ _ _ e4.1 in
    record {
      long = ltb-false (length bytes) 3 e1.0;
      known = not-false _ e2.0;
      whole = ltb-false (length bytes) (head_bits (layout_in bytes) / 8) e3.0;
      is_fine = e4.0;
      size = ltb-false (length bytes) (size_in bytes) e5.0;
    }

-- a reader that knows its edition alone judges a slip as the one that knows both
pub one_edition : (from : ℕ) (bytes : List ℕ) → is_edition from ≡ true → edition_in bytes ≡ from → first_verdict_of (eqb from) bytes ≡ first_verdict bytes
unfolding first_verdict_of
one_edition from bytes known e = rw (e, eq-eqb from from refl, known)

pub begun : (bytes : List ℕ) → Begins bytes → first_verdict bytes ≡ fine
unfolding first_verdict_of refuse and_then
begun bytes b =
    rw (
      le-ltb (length bytes) 3 b.long,
      b.known,
      le-ltb (length bytes) (head_bits (layout_in bytes) / 8) b.whole,
      b.is_fine,
      le-ltb (length bytes) (size_in bytes) b.size,
    )

pub record Sound (bytes : List ℕ) : Type 0 where
  pub known : is_edition (edition_in bytes) ≡ true
  pub is_fine : numbers_in bytes ≡ fine
  pub numbers : Numbers (width_in bytes) (depth_in bytes) (dimension_in bytes) (count_in bytes)
  pub size : length bytes ≡ size_in bytes

pub sound : (bytes : List ℕ) → head_verdict bytes ≡ fine → Sound bytes
unfolding head_verdict
sound bytes e =
    let e1 = then_fine (first_verdict bytes) _ e in
    let b = begins bytes e1.0 in
    record {
      known = b.known;
      is_fine = b.is_fine;
      numbers = numbers_are bytes b.is_fine;
      size = omega (arith, b.size, ltb-false (size_in bytes) (length bytes) (refuse_fine _ _ _ e1.1).0);
    }

pub points_few : (bytes : List ℕ) → Sound bytes → count_in bytes ≤ longest
points_few bytes s = count_small s.numbers

-- ---- the checks of the whole slip

-- what the search for a repeated point says of the least index h of one, among n
pub found_at : (h n i : ℕ) → Some i ≡ found h n → (i ≡ h) × (h < n)
found_at h n i e = go (ltb h n) refl
  where
    go : (b : Bool) → ltb h n ≡ b → (i ≡ h) × (h < n)
    go true q = let f : Some i ≡ Some h = e ∙ rw q in (cc, ltb-true h n q)
    go false q = let f : Some i ≡ None = e ∙ rw q in absurd (apart cc)

pub none_below : (h n : ℕ) → None ≡ found h n → n ≤ h
none_below h n e = go (ltb h n) refl
  where
    go : (b : Bool) → ltb h n ≡ b → n ≤ h
    go true q = let f : None ≡ Some h = e ∙ rw q in absurd (apart cc)
    go false q = ltb-false h n q

module _ (bytes : List ℕ) (count n : ℕ) where
  pub read_head : (x : Refusal) → head_verdict bytes ≡ Err x → Err x ≡ read_verdict bytes count n
  unfolding read_verdict and_then
  read_head x e = rw e

  -- one that nothing stands behind is judged by what it holds and by the room that there is
  module _ (e : head_verdict bytes ≡ fine) where
    pub read_loose : 0 < spare_in bytes + fill_in bytes → Err SlipBits ≡ read_verdict bytes count n
    unfolding read_verdict and_then refuse
    read_loose l = rw (e, lt-ltb 0 (spare_in bytes + fill_in bytes) l)

    module _ (none : spare_in bytes + fill_in bytes ≤ 0) where
      pub read_twice : first_twice (points_in bytes) < count_in bytes → Err (PointTwice (first_twice (points_in bytes))) ≡ read_verdict bytes count n
      unfolding read_verdict and_then refuse
      read_twice l = rw (e, le-ltb 0 (spare_in bytes + fill_in bytes) none, lt-ltb (first_twice (points_in bytes)) (count_in bytes) l)

      module _ (once : count_in bytes ≤ first_twice (points_in bytes)) where
        by_room : read_verdict bytes count n ≡ refuse (ltb count (count_in bytes) || ltb n (depth_in bytes * count_in bytes)) Length fine
        unfolding read_verdict and_then refuse
        by_room = rw (e, le-ltb 0 (spare_in bytes + fill_in bytes) none, le-ltb (first_twice (points_in bytes)) (count_in bytes) once)

        pub read_points : count < count_in bytes → Err Length ≡ read_verdict bytes count n
        unfolding refuse
        read_points l = sym (by_room ∙ rw (lt-ltb count (count_in bytes) l))

        module _ (p : count_in bytes ≤ count) where
          pub read_row : n < depth_in bytes * count_in bytes → Err Length ≡ read_verdict bytes count n
          unfolding refuse
          read_row l = sym (by_room ∙ rw (le-ltb count (count_in bytes) p, lt-ltb n (depth_in bytes * count_in bytes) l))

          pub read_fine : depth_in bytes * count_in bytes ≤ n → fine ≡ read_verdict bytes count n
          unfolding refuse
          read_fine l = sym (by_room ∙ rw (le-ltb count (count_in bytes) p, le-ltb n (depth_in bytes * count_in bytes) l))

  -- what a slip that is taken has room for
  module _ (e : read_verdict bytes count n ≡ fine) where
    pub read_checked : head_verdict bytes ≡ fine
    unfolding read_verdict
    read_checked = (then_fine _ _ e).0

    pub read_clean : spare_in bytes + fill_in bytes ≡ 0
    unfolding read_verdict
    read_clean = omega (arith, ltb-false 0 (spare_in bytes + fill_in bytes) (refuse_fine _ _ _ (then_fine (head_verdict bytes) _ e).1).0)

    pub read_once : count_in bytes ≤ first_twice (points_in bytes)
    unfolding read_verdict
    read_once = ltb-false _ _ (refuse_fine _ _ _ (refuse_fine _ _ _ (then_fine (head_verdict bytes) _ e).1).1).0

    pub read_room : (count_in bytes ≤ count) × (depth_in bytes * count_in bytes ≤ n)
    unfolding read_verdict
    read_room =
        let r = refuse_fine _ _ _ (refuse_fine _ _ _ (refuse_fine _ _ _ (then_fine (head_verdict bytes) _ e).1).1).1 in
        let o = or_false (ltb count (count_in bytes)) (ltb n (depth_in bytes * count_in bytes)) r.0 in
        (ltb-false _ _ o.0, ltb-false _ _ o.1)

-- ---- what is known of bytes that were opened

module _ (s : Reader) where
  pub opened : Begins s.bytes.now
  opened = begins s.bytes.now s.begins

  -- the row and the symbols in all
  pub row_is : s.r * s.count ≡ depth_in s.bytes.now * count_in s.bytes.now
  row_is = rw (s.heads.r_is, s.heads.count_is)

  pub held_few : s.count + s.r * s.count ≤ 2 * longest
  held_few = omega (arith, symbols_few s.bytes.now opened.is_fine, row_is, s.heads.count_is)

  pub count_few : s.count ≤ longest
  count_few = omega (arith, count_small (numbers_are s.bytes.now opened.is_fine), s.heads.count_is)

  -- a place behind the header, up to the slip's last bit
  pub place_low : (start i : ℕ) → start ≡ head_bits (layout s.edition) → i ≤ s.count + s.r * s.count → start + s.field.m * i ≤ 32 + 8 * (2 * longest)
  place_low start i e l =
      let L = laid (number s.edition) in
      omega (arith, L.whole, L.bytes_top, mul-le-mul {n₁ = s.field.m} {m₁ = i} {n₂ = 8} {m₂ = 2 * longest} (width_top _ s.field.known) (omega (arith, held_few)))

  -- nothing stands behind the slip
  pub nothing_behind : length s.bytes.now ≤ size_in s.bytes.now → head_verdict s.bytes.now ≡ fine
  nothing_behind l = sym (head_fine s.bytes.now s.begins l)

-- ---- the ways out of the call

module _ (bytes points row : List ℕ) where
  pub read_refused : (x : Refusal) → read_verdict bytes (length points) (length row) ≡ Err x → Read bytes points row (Err x) points row
  unfolding reading kept
  read_refused x e = record { answers = rw e; leaves_points = rw e; leaves_row = rw e }

  pub read_done : read_verdict bytes (length points) (length row) ≡ fine → (s : SlipRead) → reading fine bytes ≡ Ok s
      → (points' row' : List ℕ) → points' ≡ front (points_in bytes) points → row' ≡ front (row_in bytes) row → Read bytes points row (Ok s) points' row'
  unfolding kept
  read_done e s a points' row' p w = record { answers = rw e (sym a); leaves_points = rw e p; leaves_row = rw e w }
