-- The ways out of the slip writer, and what its own functions rely on.
use Prim.Native.Nat.{ℕ, ◌+◌, ◌*◌, ◌<◌, ◌≤◌}
use mathlib.Core.Bool.{true, false, not}
use mathlib.Core.Path.{◌≡◌, sym, ◌∙◌}
use mathlib.Core.List.{List, ◌++◌}
use native.Mathlib.Omega.{arith}
use lib.Dec.{eqb, ltb}
use lib.ListN.{length}
use borrow.Author.Tests.{lt-ltb, le-ltb, eq-eqb, ne_eqb, ltb-false, eqb-true, not-false}
use Rattle.defs.specs.Field.{Width}
use Rattle.defs.specs.Place.{Symbols}
use Rattle.defs.specs.Refusal.{refuse, and_then, answer, kept, Verdict, fine}
use Rattle.defs.specs.Limits.{longest, numbers_verdict, code_verdict, Within, Inside}
use Rattle.defs.specs.Encode.{symbols_verdict}
use Rattle.defs.specs.Slip.{is_edition, layout_of, slip_size, longest_slip, slip_of}
use Rattle.defs.specs.Write.{front, write_verdict, Written}
use Rattle.defs.specs.declared.Layout.{Layout}
use Rattle.defs.specs.declared.Refusal.{Refusal}
use Rattle.defs.specs.declared.Refusal.TheVariants.{Length, Edition}
use Rattle.theory.specs.Limits.{Limits}
use Rattle.theory.proofs.Place.{none_high}
use Rattle.theory.proofs.Layouts.{layout_top}
use Rattle.theory.proofs.Limits.{within_known, code_within, count_small}
use Rattle.theory.proofs.Checks.{symbols_fine}
use Rattle.theory.proofs.Verdict.{refuse_fine, then_fine}
use Rattle.slip.specs.declared.write.Slip.{Slip}
use Rattle.slip.specs.Laid.{Laid}
use Rattle.slip.specs.Edition.{number, layout}
use Rattle.slip.specs.Head.{Fitting}
use Rattle.slip.proofs.Bits.{symbols_append}
use Rattle.slip.proofs.Layouts.{laid, size_top}
use Rattle.slip.proofs.HeaderBits.{fitting}
use Rattle.std.proofs.Common.{Err, Ok}

-- what a code inside the layout's limits says to the functions that write it
module _ (L : Layout) (laid : Laid L) (m r k : ℕ) (points : List ℕ) (e : Within L.top m r k points) where
  pub within_limits : Limits m r k points
  within_limits = within_known L.top m r k points laid.top_low e

  pub within_width : Width m
  within_width = within_limits.numbers.width

  pub within_numbers : numbers_verdict L.top m r k (length points) ≡ fine
  unfolding code_verdict
  within_numbers = (then_fine (numbers_verdict L.top m r k (length points)) _ e).0

  pub within_fits : Fitting L r k (length points)
  within_fits = fitting L laid m r k (length points) within_numbers

  pub within_symbols : (w : List ℕ) → Symbols m w → Symbols m (points ++ w)
  within_symbols w h = symbols_append m points w within_limits.symbols h

  -- the points and a row of them are few
  pub few : (w : List ℕ) → length w ≡ r * length points → length points + length w ≤ 2 * longest
  few w l =
      let n = within_limits.numbers in
      omega (arith, count_small n, n.row_top)

-- what is written has symbols alone, and few enough for the longest slip
module _ (s : Slip) where
  pub symbols : Symbols s.field.m (s.points.now ++ s.row.now)
  symbols = within_symbols _ (laid (number s.edition)) _ _ _ _ s.within _ s.symbols

  pub held : length s.points.now + length s.row.now ≤ 2 * longest
  held = few _ (laid (number s.edition)) _ _ _ _ s.within _ s.whole

  pub top : slip_size (layout s.edition) s.field.m (length s.points.now + length s.row.now) ≤ longest_slip
  top = size_top _ (laid (number s.edition)) _ _ s.field.known held

-- the ways out of the checks
module _ (edition m r k : ℕ) (points w : List ℕ) (size : ℕ) where
  abbrev L : Layout
  L = layout_of edition

  abbrev judged : Verdict
  judged = write_verdict edition m r k points w size

  pub refused_edition : is_edition edition ≡ false → Err Edition ≡ judged
  unfolding write_verdict refuse
  refused_edition n = rw n

  module _ (known : is_edition edition ≡ true) where
    -- a known edition is judged by its code, in two steps, and what is behind it
    by_code : judged ≡ and_then (and_then (numbers_verdict L.top m r k (length points)) (code_verdict longest m r k points))
        (refuse (not (eqb (length w) (r * length points))) Length (refuse (ltb size (slip_size L m (length points + length w))) Length (symbols_verdict m w)))
    unfolding write_verdict refuse
    by_code = rw (known, code_within L.top m r k points (layout_top edition))

    pub refused_numbers : (x : Refusal) → numbers_verdict L.top m r k (length points) ≡ Err x → Err x ≡ judged
    unfolding and_then
    refused_numbers x e = sym (by_code ∙ rw e)

    module _ (f : numbers_verdict L.top m r k (length points) ≡ fine) where
      pub refused_code : (x : Refusal) → code_verdict longest m r k points ≡ Err x → Err x ≡ judged
      unfolding and_then
      refused_code x e = sym (by_code ∙ rw (f, e))

      pub code_fine : Inside m r k points → Within L.top m r k points
      unfolding and_then
      code_fine e = code_within L.top m r k points (layout_top edition) ∙ rw (f, e)

    module _ (e : Within L.top m r k points) where
      pub refused_row : (length w ≡ r * length points → ⊥) → Err Length ≡ judged
      unfolding write_verdict and_then refuse
      refused_row n = rw (known, e, ne_eqb (length w) (r * length points) n)

      module _ (l : length w ≡ r * length points) where
        pub refused_size : size < slip_size L m (length points + length w) → Err Length ≡ judged
        unfolding write_verdict and_then refuse
        refused_size s = rw (known, e, eq-eqb (length w) (r * length points) l, lt-ltb size (slip_size L m (length points + length w)) s)

        pub by_symbols : slip_size L m (length points + length w) ≤ size → (v : Verdict) → v ≡ symbols_verdict m w → v ≡ judged
        unfolding write_verdict and_then refuse
        by_symbols s v q = rw (known, e, eq-eqb (length w) (r * length points) l, le-ltb size (slip_size L m (length points + length w)) s) q

-- a code and a row that the writer takes
pub record Writable (edition m r k : ℕ) (points w : List ℕ) (size : ℕ) : Type 0 where
  pub known : is_edition edition ≡ true
  pub within : Within (layout_of edition).top m r k points
  pub row : length w ≡ r * length points
  pub room : slip_size (layout_of edition) m (length points + length w) ≤ size
  pub symbols : Symbols m w

module _ (edition m r k : ℕ) (points w : List ℕ) (size : ℕ) where
  pub writable : write_verdict edition m r k points w size ≡ fine → Writable edition m r k points w size
  unfolding write_verdict symbols_verdict
  writable e =
      let e0 = refuse_fine _ _ _ e in
      let e1 = then_fine (code_verdict (layout_of edition).top m r k points) _ e0.1 in
      let e2 = refuse_fine _ _ _ e1.1 in
      let e3 = refuse_fine _ _ _ e2.1 in
      let e4 = refuse_fine _ _ _ e3.1 in
      record {
        known = not-false _ e0.0;
        within = e1.0;
        row = eqb-true _ _ (not-false _ e2.0);
        room = ltb-false _ _ e3.0;
        symbols = none_high m w (ltb-false _ _ e4.0);
      }

  pub writable_fine : Writable edition m r k points w size → write_verdict edition m r k points w size ≡ fine
  writable_fine x =
      sym (by_symbols edition m r k points w size x.known x.within x.row x.room fine (sym (symbols_fine m w x.symbols)))

  -- its slip is no longer than the longest
  pub written_top : Writable edition m r k points w size → slip_size (layout_of edition) m (length points + length w) ≤ longest_slip
  written_top x =
      let l = laid edition in
      size_top (layout_of edition) l m (length points + length w) (within_width _ l m r k points x.within) (few _ l m r k points x.within w x.row)

-- the ways out of the call
module _ (edition m r k : ℕ) (points w bytes : List ℕ) where
  pub written_refused : (x : Refusal) → Err x ≡ write_verdict edition m r k points w (length bytes) → Written edition m r k points w bytes (Err x) bytes
  unfolding answer kept
  written_refused x e = record { answers = rw (← e); leaves = rw (← e) }

  pub written_done : write_verdict edition m r k points w (length bytes) ≡ fine → (size : ℕ) → size ≡ slip_size (layout_of edition) m (length points + length w)
      → (bytes' : List ℕ) → bytes' ≡ front (slip_of (layout_of edition) m r k points w) bytes → Written edition m r k points w bytes (Ok size) bytes'
  unfolding answer kept
  written_done e size s bytes' b = record { answers = rw (e, s); leaves = rw e b }
