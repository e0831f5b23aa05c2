-- What holds of every refusal that the checks of the two calls may end in, over any property of refusals.
use Prim.Native.Nat.{ℕ, suc, ◌^◌, ◌<◌}
use mathlib.Core.List.{List, [], ◌∷◌}
use native.Mathlib.Omega.{arith}
use lib.ListN.{length}
use Rattle.defs.specs.Place.{first_high}
use Rattle.defs.specs.Limits.{longest}
use Rattle.defs.specs.Encode.{symbols_verdict, distance_verdict}
use Rattle.defs.specs.Text.{text_verdict}
use Rattle.defs.specs.Levels.{level_verdict, lines_verdict, lines, shape_verdict, levels_read_verdict, levels_write_verdict}
use Rattle.defs.specs.declared.Refusal.{Refusal}
use Rattle.defs.specs.declared.Refusal.TheVariants.{Field, Depth, Length, SymbolHigh, LevelLine, LevelHigh}
use Rattle.theory.proofs.Verdict.{Every, every_fine, every_then, every_plain, every_place}
use Rattle.levels.proofs.Shape.{shape_known}

module _ {P : Refusal → Type 0} (field : P Field) (depth : P Depth) (long : P Length) where
  pub shape_every : (m r n : ℕ) → Every P (shape_verdict m r n)
  unfolding shape_verdict distance_verdict
  shape_every m r n = every_plain _ _ _ field (every_plain _ _ _ depth (every_plain _ _ _ long every_fine))

  module _ (bad : (i : ℕ) → P (LevelLine i)) (high : (i : ℕ) → P (LevelHigh i)) where
    lines_every : (bound i : ℕ) (rest : List (List ℕ)) → Every P (lines_verdict bound i rest)
    unfolding lines_verdict level_verdict
    lines_every bound i [] = every_fine
    lines_every bound i (line ∷ rest) =
        every_then (level_verdict bound i line) _ (every_plain _ _ _ (bad i) (every_plain _ _ _ (high i) every_fine))
        (λ is_fine. lines_every bound (suc i) rest)

    pub read_every : (m r : ℕ) (text : List ℕ) (n : ℕ) → Every P (levels_read_verdict m r text n)
    unfolding levels_read_verdict
    read_every m r text n =
        every_then (shape_verdict m r n) _ (shape_every m r n)
        (λ is_fine. every_then (lines_verdict ((2 ^ m) ^ r) 0 (lines text)) _ (lines_every ((2 ^ m) ^ r) 0 (lines text))
        (λ good. every_plain _ _ _ long every_fine))

  pub write_every : ((i : ℕ) → i < longest → P (SymbolHigh i)) → (m r : ℕ) (w : List ℕ) (size : ℕ) → Every P (levels_write_verdict m r w size)
  unfolding levels_write_verdict symbols_verdict text_verdict
  write_every symbol m r w size =
      every_then (shape_verdict m r (length w)) _ (shape_every m r (length w))
      (λ is_fine. every_then (symbols_verdict m w) _
      (every_place (first_high m w) (length w) _ _ (λ l. symbol _ (omega (arith, (shape_known m r (length w) is_fine).n_top))) every_fine)
      (λ low. every_plain _ _ _ long every_fine))
