-- A code and a row that were written as a slip, of either edition, are read from it again.
use Prim.Native.Nat.{ℕ, suc, ◌+◌, ◌*◌, ◌-◌, ◌<◌, ◌≤◌}
use mathlib.Core.Bool.{true}
use mathlib.Core.Path.{◌≡◌, ap, sym, ◌∙◌}
use mathlib.Core.List.{List, ◌++◌}
use native.Mathlib.Nat.{mul-suc, mul_comm, mul-le-mul_left, mod-eq_of_lt, zero-add}
use native.Mathlib.Omega.{arith}
use lib.ListN.{length, get_or, take, length-append, get_or-append}
use lib.Seq.{get_or-append-add}
use borrow.Author.Tests.{ltb-false}
use Rattle.defs.specs.Place.{Symbols}
use Rattle.defs.specs.Refusal.{answer, kept, fine}
use Rattle.defs.specs.Limits.{numbers_verdict, first_twice, code_verdict, Within}
use Rattle.defs.specs.Slip.{is_edition, layout_of, all_bits, number_at, head_bits, slip_size, slip_bits, slip_of, edition_in, layout_in, width_in, depth_in, count_in, dimension_in, symbols_in, points_in, row_in, spare_in, used_in, size_in, fill_in}
use Rattle.defs.specs.Write.{front, write_verdict, Written}
use Rattle.defs.specs.Read.{head_verdict, read_verdict, reading, Read}
use Rattle.defs.specs.declared.Layout.{Layout}
use Rattle.defs.specs.declared.Refusal.{Refusal}
use Rattle.defs.specs.declared.SlipRead.{SlipRead}
use Rattle.theory.proofs.Place.{length_tab, tab_same, tab_get_d}
use Rattle.theory.proofs.Verdict.{refuse_fine, then_fine, answer_done}
use Rattle.slip.specs.Head.{header_bits, Fitting}
use Rattle.slip.proofs.Bits.{length_all_bits, number_beyond, number_symbol}
use Rattle.slip.proofs.Layouts.{laid, edition_own}
use Rattle.slip.proofs.HeaderBits.{header_edition, header_width, header_depth, header_count, header_dimension, header_spare}
use Rattle.slip.proofs.Packed.{number_back, slip_bits_are, in_header, behind_header}
use Rattle.slip.proofs.Writer.{within_width, within_numbers, within_fits, within_symbols, Writable, writable}
use Rattle.slip.proofs.Front.{take_front}
use Rattle.slip.proofs.Reader.{Begins, begun, head_fine, read_fine}
use Rattle.std.proofs.Common.{Ok, Result}

pub length_slip : (L : Layout) (m r k : ℕ) (points w : List ℕ) → length (slip_of L m r k points w) ≡ slip_size L m (length points + length w)
unfolding slip_of
length_slip L m r k points w = length_tab _ _

-- a slip of a known edition
module _ (edition : ℕ) (known : is_edition edition ≡ true) (m r k : ℕ) (points w : List ℕ) where
  abbrev L : Layout
  L = layout_of edition

  abbrev slip : List ℕ
  slip = slip_of L m r k points w

  module _ (e : Within L.top m r k points) (h : Symbols m w) where
    fits : Fitting L r k (length points)
    fits = within_fits L (laid edition) m r k points e

    -- a field of the header, and a symbol behind it
    field_back : (v p : ℕ) → p + v ≤ head_bits L → number_at v p (all_bits 8 slip) ≡ number_at v p (header_bits L m r k (length points))
    unfolding slip_of slip_size
    field_back v p l =
        number_back v p (slip_size L m (length points + length w)) (slip_bits L m r k points w) (slip_bits_are L m r k points w) (omega (arith, (laid edition).whole))
        ∙ in_header L m r k points w v p l

    symbol_back : (j : ℕ) → j < length points + length w → number_at m (head_bits L + m * j) (all_bits 8 slip) ≡ get_or (points ++ w) j 0
    unfolding slip_of slip_size
    symbol_back j l =
        let N = length points + length w in
        number_back m (head_bits L + m * j) (slip_size L m N) (slip_bits L m r k points w) (slip_bits_are L m r k points w)
        (omega (arith, (laid edition).whole, mul-suc m j, mul_comm m N, mul-le-mul_left {m = suc j} {n = N} m l))
        ∙ behind_header L m r k points w m (m * j)
        ∙ number_symbol m (points ++ w) j
        ∙ mod-eq_of_lt (within_symbols L (laid edition) m r k points e w h j)

    pub edition_back : edition_in slip ≡ edition
    unfolding edition_in head_bits
    edition_back = field_back 4 0 (omega arith) ∙ header_edition L m r k (length points) (laid edition) ∙ edition_own edition known

    pub layout_back : layout_in slip ≡ L
    unfolding layout_in
    layout_back = ap layout_of edition_back

    -- the numbers of the header
    pub width_back : width_in slip ≡ m
    unfolding width_in head_bits
    width_back = rw (field_back 2 4 (omega arith)) (header_width L m r k (length points) (within_width L (laid edition) m r k points e))

    pub depth_back : depth_in slip ≡ r
    unfolding depth_in head_bits
    depth_back = rw (field_back 3 6 (omega arith)) (header_depth L m r k (length points) fits)

    pub count_back : count_in slip ≡ length points
    unfolding count_in head_bits
    count_back = rw (layout_back, field_back L.countbits 9 (omega arith)) (header_count L m r k (length points) fits)

    pub dimension_back : dimension_in slip ≡ k
    unfolding dimension_in head_bits
    dimension_back = rw (layout_back, field_back L.kbits (9 + L.countbits) (omega arith)) (header_dimension L m r k (length points) fits)

    symbols_back : (past : ℕ) (s : List ℕ) → past + length s ≤ length points + length w
        → ((j : ℕ) → j < length s → get_or (points ++ w) (past + j) 0 ≡ get_or s j 0) → symbols_in slip past (length s) ≡ s
    unfolding symbols_in
    symbols_back past s l g =
        rw (width_back, layout_back)
        (tab_same _ (λ j. get_or s j 0) (length s) (λ j b. symbol_back (past + j) (omega arith) ∙ g j b) ∙ tab_get_d s)

    pub points_back : points_in slip ≡ points
    unfolding points_in
    points_back =
        rw count_back (symbols_back 0 points (omega arith) (λ j l. rw (zero-add j) (get_or-append points w 0 j l)))

    module _ (n : length w ≡ r * length points) where
      pub row_back : row_in slip ≡ w
      unfolding row_in
      row_back =
          rw (depth_back, count_back, ← n) (symbols_back (length points) w (omega arith) (λ j l. get_or-append-add points w j 0))

      points_once : length points ≤ first_twice points
      unfolding code_verdict
      points_once =
          let e1 = refuse_fine _ _ _ (then_fine (numbers_verdict L.top m r k (length points)) _ e).1 in
          ltb-false (first_twice points) (length points) (refuse_fine _ _ _ e1.1).0

      size_back : size_in slip ≡ length slip
      unfolding size_in
      size_back = rw (layout_back, width_back, depth_back, count_back, ← n) (sym (length_slip L m r k points w))

      pub head_back : head_verdict slip ≡ fine
      unfolding slip_size
      head_back =
          let size : length slip ≡ slip_size L m (length points + length w) = length_slip L m r k points w in
          let begins : Begins slip = record {
            long = omega (arith, size, (laid edition).bytes_bottom);
            known = rw edition_back known;
            whole = rw layout_back (omega (arith, size));
            is_fine = rw (layout_back, width_back, depth_back, dimension_back, count_back) (within_numbers L (laid edition) m r k points e);
            size = omega (arith, size_back);
          } in
          sym (head_fine slip (begun slip begins) (omega (arith, size_back)))

      -- nothing stands in the bits that hold nothing
      spare_back : spare_in slip ≡ 0
      unfolding spare_in head_bits
      spare_back = rw layout_back (field_back L.zerobits (9 + L.countbits + L.kbits) (omega arith) ∙ header_spare L m r k (length points))

      fill_back : fill_in slip ≡ 0
      unfolding fill_in used_in size_in slip_of slip_size
      fill_back =
          let N = length points + length w in
          let S = slip_bits L m r k points w in
          let left = 8 * slip_size L m N - (head_bits L + m * N) in
          rw (layout_back, width_back, depth_back, count_back, ← n)
          (number_back left (head_bits L + m * N) (slip_size L m N) S (slip_bits_are L m r k points w) (omega (arith, (laid edition).whole, mul_comm m N))
          ∙ behind_header L m r k points w left (m * N)
          ∙ number_beyond left (m * N) (all_bits m (points ++ w)) (omega (arith, length_all_bits m (points ++ w), ap (λ (x : ℕ). m * x) (length-append points w))))

      pub verdict_back : (count size : ℕ) → length points ≤ count → length w ≤ size → read_verdict slip count size ≡ fine
      verdict_back count size a b =
          sym (read_fine slip count size head_back (omega (arith, spare_back, fill_back)) (rw (points_back, count_back) points_once) (rw count_back a)
          (rw (depth_back, count_back, ← n) b))

      -- a slip is read as what it was made of
      pub slip_read_back : (points₀ row₀ : List ℕ) → length points ≤ length points₀ → length w ≤ length row₀
          → (a : Result SlipRead Refusal) (points₁ row₁ : List ℕ) → Read slip points₀ row₀ a points₁ row₁
          → (a ≡ Ok (record { edition = edition; m = m; r = r; count = length points; k = k })) × (points₁ ≡ front points points₀) × (row₁ ≡ front w row₀)
      unfolding reading kept
      slip_read_back points₀ row₀ p q a points₁ row₁ t =
          let v = verdict_back (length points₀) (length row₀) p q in (
            t.answers ∙ rw (v, edition_back, width_back, depth_back, count_back, dimension_back),
            rw (v, points_back) at t.leaves_points,
            rw (v, row_back) at t.leaves_row,
          )

-- what a writer that is done has written
module _ (edition m r k d : ℕ) (points w bytes bytes' : List ℕ) (t : Written edition m r k points w bytes (Ok d) bytes') where
  taken : Writable edition m r k points w (length bytes)
  taken = writable edition m r k points w (length bytes) (answer_done _ _ d (sym t.answers))

  pub wrote : take d bytes' ≡ slip_of (layout_of edition) m r k points w
  unfolding answer kept
  wrote =
      let v = answer_done (write_verdict edition m r k points w (length bytes)) _ d (sym t.answers) in
      let s = slip_of (layout_of edition) m r k points w in
      let a : Ok d ≡ Ok (slip_size (layout_of edition) m (length points + length w)) = rw v at t.answers in
      let e : length s ≡ d = length_slip (layout_of edition) m r k points w ∙ cc in
      let b : bytes' ≡ front s bytes = rw v at t.leaves in
      ap (take d) b ∙ take_front s bytes d e

  -- it is a slip of that edition, by its header and its size
  pub written_edition : edition_in (take d bytes') ≡ edition
  written_edition = rw wrote (edition_back edition taken.known m r k points w taken.within taken.symbols)

  pub written_whole : head_verdict (take d bytes') ≡ fine
  written_whole = rw wrote (head_back edition taken.known m r k points w taken.within taken.symbols taken.row)

  -- WRITE, THEN READ: whatever the writer left, if it was done, and whatever the reader then answers, the edition, the code and the row are the same
  pub round_trip : (points₀ row₀ : List ℕ) → length points ≤ length points₀ → length w ≤ length row₀
      → (a : Result SlipRead Refusal) (points₁ row₁ : List ℕ) → Read (take d bytes') points₀ row₀ a points₁ row₁
      → (a ≡ Ok (record { edition = edition; m = m; r = r; count = length points; k = k })) × (points₁ ≡ front points points₀) × (row₁ ≡ front w row₀)
  round_trip points₀ row₀ p q a points₁ row₁ t =
      slip_read_back edition taken.known m r k points w taken.within taken.symbols taken.row points₀ row₀ p q a points₁ row₁ (rw wrote at t)
