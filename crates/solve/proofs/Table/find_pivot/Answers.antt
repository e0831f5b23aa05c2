-- `solve::Table::find_pivot` meets its contract.
use mathlib.Core.Path.{◌≡◌}
use Prim.Native.Nat.{ℕ, ◌<◌, ◌≤◌}
use Rattle.std.specs.Prelude.{Option, Some, None, MatchOption}
use Rattle.std.proofs.Common.{arith, rules, tests}
use Rattle.std.proofs.lemmas.List.{get_or_read}
use Rattle.std.proofs.lemmas.Iterator.{first_from_Range}
use Rattle.solve.specs.Table.{at}
use Rattle.solve.specs.System.{Matrix}
use Rattle.solve.specs.Step.{Pivot}
use Rattle.solve.proofs.Table.find_pivot.Goals as goal

found : (rows c : ℕ) (M : Matrix) (r : Option ℕ)
    → MatchOption r ((k : ℕ) → c ≤ k → k < rows → M k c ≡ 0) (λ i. (c ≤ i) × (i < rows) × (M i c ≡ 0 → ⊥) × ((k : ℕ) → c ≤ k → k < i → M k c ≡ 0)) → Pivot rows c M r
found rows c M None h = record { none = h }
found rows c M (Some p) h = record { from = h.0; to = h.1; before = h.3; found = h.2 }

pub returns : goal.returns
returns c = let M = at c.args.self.now.entries in
    found _ _ _ _ (first_from_Range _ _ _ _ (λ i. M i c.args.c ≡ 0 → ⊥) (λ i. M i c.args.c ≡ 0) c.find.ensures.ran
    (λ x q k. grind (arith, tests, get_or_read)) (λ x q k. (search rules, grind (arith, tests, get_or_read))))
