-- What holds of every refusal that a call's checks may end in: the walk down each verdict, over any property of refusals.
use Prim.Native.Nat.{ℕ, ◌*◌, ◌<◌, ◌≤◌}
use mathlib.Core.Bool.{◌||◌, true}
use mathlib.Core.Path.{◌≡◌}
use mathlib.Core.List.{List}
use native.Mathlib.Omega.{arith}
use lib.Dec.{eqb, ltb, lit<}
use lib.ListN.{length}
use Rattle.defs.specs.Place.{first_high}
use Rattle.defs.specs.Refusal.{place_of, and_then, Verdict}
use Rattle.defs.specs.Limits.{deepest, longest, numbers_verdict, first_twice, code_verdict}
use Rattle.defs.specs.Encode.{symbols_verdict, encode_verdict, distance_verdict}
use Rattle.defs.specs.Decode.{decode_verdict}
use Rattle.defs.specs.Slip.{layout_of}
use Rattle.defs.specs.Write.{write_verdict}
use Rattle.defs.specs.declared.Refusal.{Refusal}
use Rattle.defs.specs.declared.Refusal.TheVariants.{Field, Depth, Points, Dimension, PointHigh, PointTwice, Length, SymbolHigh, Edition}
use Rattle.theory.specs.Limits.{Numbers}
use Rattle.theory.proofs.Layouts.{layout_top}
use Rattle.theory.proofs.Limits.{numbers_known, within_known, count_small}
use Rattle.theory.proofs.Verdict.{Every, every_fine, every_refuse, every_then, every_plain, every_place, every_length}

-- 1 to 4, where 2 is known by its test
pub numbers_every : {P : Refusal → Type 0} (top m r k count : ℕ)
    → P Field → (eqb r 0 || ltb deepest r ≡ true → P Depth) → P Points → P Dimension → Every P (numbers_verdict top m r k count)
unfolding numbers_verdict
numbers_every top m r k count field depth points dimension =
    every_plain _ _ _ field
    (every_refuse _ _ _ depth (λ t. every_plain _ _ _ points (every_plain _ _ _ dimension every_fine)))

-- a property that each refusal has whose place, if any, is below the longest row's length
module _ {P : Refusal → Type 0} (low : (x : Refusal) → place_of x < longest → P x) where
  symbols_every : (m : ℕ) (s : List ℕ) → length s ≤ longest → Every P (symbols_verdict m s)
  unfolding symbols_verdict
  symbols_every m s few = every_place (first_high m s) (length s) _ _ (λ l. low (SymbolHigh _) (omega arith)) every_fine

  pub distance_every : (r n n' : ℕ) → Every P (distance_verdict r n n')
  unfolding distance_verdict
  distance_every r n n' = every_plain _ _ _ (low Depth (lit< tt)) (every_plain _ _ _ (low Length (lit< tt)) every_fine)

  module _ (m r k : ℕ) (points : List ℕ) where
    code_every : (top : ℕ) → top ≤ longest → Every P (code_verdict top m r k points)
    unfolding code_verdict
    code_every top small =
        every_then (numbers_verdict top m r k (length points)) _
        (numbers_every top m r k (length points) (low Field (lit< tt)) (λ t. low Depth (lit< tt)) (low Points (lit< tt)) (low Dimension (lit< tt)))
        (λ is_fine. let few : length points ≤ longest = count_small (numbers_known top m r k (length points) small is_fine) in
        every_place (first_high m points) (length points) _ _ (λ l. low (PointHigh _) (omega arith))
        (every_place (first_twice points) (length points) _ _ (λ l. low (PointTwice _) (omega arith)) every_fine))

    -- the checks behind those of the code know its limits
    behind_code : (top : ℕ) → top ≤ longest → (v : Verdict) → (Numbers m r k (length points) → Every P v)
        → Every P (and_then (code_verdict top m r k points) v)
    behind_code top small v rest = every_then _ v (code_every top small) (λ is_fine. rest (within_known top m r k points small is_fine).numbers)

    pub encode_every : (message : List ℕ) (size : ℕ) → Every P (encode_verdict m r k points message size)
    unfolding encode_verdict
    encode_every message size =
        behind_code longest (omega arith) _
        (λ n. every_length (length message) k _ _ (low Length (lit< tt))
        (λ e. every_plain _ _ _ (low Length (lit< tt)) (symbols_every m message (omega (arith, n.k_top, n.row_top)))))

    pub decode_every : (w : List ℕ) (size count : ℕ) → Every P (decode_verdict m r k points w size count)
    unfolding decode_verdict
    decode_every w size count =
        behind_code longest (omega arith) _
        (λ n. every_length (length w) (r * length points) _ _ (low Length (lit< tt))
        (λ e. every_plain _ _ _ (low Length (lit< tt))
        (every_plain _ _ _ (low Length (lit< tt)) (symbols_every m w (omega (arith, n.row_top))))))

    pub write_every : (edition : ℕ) (w : List ℕ) (size : ℕ) → Every P (write_verdict edition m r k points w size)
    unfolding write_verdict
    write_every edition w size =
        every_plain _ _ _ (low Edition (lit< tt))
        (behind_code (layout_of edition).top (layout_top edition) _
        (λ n. every_length (length w) (r * length points) _ _ (low Length (lit< tt))
        (λ e. every_plain _ _ _ (low Length (lit< tt)) (symbols_every m w (omega (arith, n.row_top))))))
