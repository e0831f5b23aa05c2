-- Rows whose chunks have a depth each: chunk i of the row U is U i, and r i deep, for i < n.
use Rattle.std.specs.Prelude.{ℕ, ◌-◌, List}
use Rattle.defs.specs.Place.{total}
use Rattle.defs.specs.Distance.{agree}
use Rattle.theory.specs.Poly.{h}

-- how deep two rows agree, in all
unfoldable pub agreement : ℕ → (ℕ → ℕ) → (ℕ → ℕ → ℕ) → (ℕ → ℕ → ℕ) → ℕ
agreement n r U W = total n (λ i. agree (r i) (U i) (W i))

-- their distance
unfoldable pub apart : ℕ → (ℕ → ℕ) → (ℕ → ℕ → ℕ) → (ℕ → ℕ → ℕ) → ℕ
apart n r U W = total n (λ i. r i - agree (r i) (U i) (W i))

-- the row of f at the points P
abbrev pub row_at : ℕ → (ℕ → ℕ) → List ℕ → ℕ → ℕ → ℕ
row_at m P f i j = h m (P i) j f
