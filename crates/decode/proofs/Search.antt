-- The ways out of the search for a message.
use Prim.Native.Nat.{ℕ, ◌*◌, ◌<◌, ◌≤◌}
use Rattle.std.specs.Prelude.{None}
use mathlib.Core.Path.{◌≡◌, refl, ap, sym, ◌∙◌}
use mathlib.Core.List.{List}
use native.Mathlib.Omega.{arith}
use lib.ListN.{length, take}
use lib.Seq.{ext_get_or, get_or-take}
use Rattle.defs.specs.Row.{Message, row_of}
use Rattle.defs.specs.Distance.{distance, radius, reach, Near}
use Rattle.defs.specs.Limits.{longest}
use Rattle.defs.specs.Pair.{IsPair}
use Rattle.defs.specs.declared.Code.{Code}
use Rattle.theory.specs.Limits.{Numbers}
use Rattle.theory.proofs.Limits.{inside_known}
use Rattle.theory.proofs.Pair.{pair_exists, pair_divides, pair_nonzero}
use Rattle.code.specs.Checked.{points_of, IsCode}
use Rattle.code.proofs.Outcome.{is_code}
use Rattle.rows.specs.Chunk.{Rows}
use Rattle.pair.specs.Found.{IsRow}
use Rattle.pair.proofs.Outcome.{short}
use Rattle.quotient.specs.Quotient.{Dividing, Quotient}
use Rattle.decode.specs.Search.{Candidate, Sent, Nearby, IsSought}
use Rattle.decode.proofs.Outcome.{front_message, rows_front}

module _ {c : Code} {w : List ℕ} (row : IsRow c w) where
  abbrev is : IsCode c
  is = is_code c

  abbrev points : List ℕ
  points = points_of c

  numbers : Numbers c.m c.r c.k (length points)
  numbers = (inside_known _ _ _ _ is.inside).numbers

  abbrev PairOf : List ℕ → List ℕ → Type 0
  PairOf = IsPair c.m c.r c.k points w

  long : length w ≡ c.r * length points
  long = row.size ∙ ap (λ (i : ℕ). c.r * i) (sym is.counted)

  -- no radius is above the longest row
  pub radius_short : (t : ℕ) → t ≡ radius (length w) c.k → t ≤ longest
  unfolding radius
  radius_short t e = omega (arith, short row)

  -- no pair, and so no message
  pub no_pair : ((Q₀ Q₁ : List ℕ) → PairOf Q₀ Q₁ → ⊥) → IsSought c w None
  no_pair empty f near = let (Q₀, Q₁, p) = pair_exists _ _ _ points w is.inside f near in empty Q₀ Q₁ p

  module _ (Q₀ Q₁ : List ℕ) (p : PairOf Q₀ Q₁) where
    pub dividing : Dividing c.m c.k Q₀ Q₁
    unfolding radius
    dividing =
        record {
          symbols₀ = p.symbols₀;
          symbols₁ = p.symbols₁;
          long = omega (arith, p.size₀, numbers.k_top, numbers.row_top);
          room = omega (arith, p.size₀, p.size₁, numbers.k_top);
        }

    module _ (f : List ℕ) (q : Quotient c.m c.k Q₀ Q₁ f) where
      pub candidate : Candidate c f (length w)
      candidate = record { long = q.long; symbols = q.symbols; size = row.size }

      abbrev g : List ℕ
      g = take c.k f

      -- a message that is near is the quotient
      the_quotient : (h : List ℕ) → Near c.m c.r c.k points w h → g ≡ h
      the_quotient h near =
          let m_is : Message c.m c.k g = front_message candidate in
          ext_get_or 0 g h (m_is.size ∙ sym near.message.size)
          (λ i l. get_or-take c.k f i 0 (omega (arith, m_is.size))
          ∙ q.exact h near.message (pair_nonzero _ _ _ points w is.inside Q₀ Q₁ p)
          (pair_divides _ _ _ points w is.inside h near Q₀ Q₁ p) i (omega (arith, m_is.size)))

      module _ (u : List ℕ) (sent : Sent c f (length w) u) (d : ℕ) (h : d ≡ distance c.r c.count (take (length w) u) w) where
        measured : d ≡ distance c.r (length points) (row_of c.m c.r points g) w
        measured =
            h ∙ ap (λ (s : List ℕ). distance c.r c.count s w) sent.row
            ∙ ap (λ (i : ℕ). distance c.r i (row_of c.m c.r points g) w) (sym is.counted)

        reach_is : (t : ℕ) → t ≡ radius (length w) c.k → t ≡ reach c.r c.k points
        reach_is t e = e ∙ ap (λ (n : ℕ). radius n c.k) long

        pub too_far : (t : ℕ) → t ≡ radius (length w) c.k → t < d → IsSought c w None
        too_far t e l f' near =
            let same : d ≡ distance c.r (length points) (row_of c.m c.r points f') w =
            measured ∙ ap (λ (s : List ℕ). distance c.r (length points) (row_of c.m c.r points s) w) (the_quotient f' near) in
            omega (arith, near.within, reach_is t e)

        pub near_enough : (t : ℕ) → t ≡ radius (length w) c.k → d ≤ t → Nearby c w (record { message = f; row = u })
        near_enough t e l =
            record { long = q.long; sent = sent; near = record { message = front_message candidate; within = omega (arith, measured, reach_is t e) } }

  pub rows_ready : (f u : List ℕ) → Sent c f (length w) u → Rows c.r c.count (take (length w) u) w
  rows_ready f u sent = rows_front c u w (length w) refl row.size sent.long
