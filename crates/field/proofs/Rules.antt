-- The rules of the tables of powers and logarithms, from one computed test over each table.
use mathlib.Core.Path.{◌≡◌, sym, ap, ◌∙◌, subst}
use mathlib.Core.Logic.{⊎_elim}
use mathlib.Core.Bool.{Bool, true, ◌&&◌, ◌||◌}
use mathlib.Core.List.{List, [], ◌∷◌}
use Prim.Native.Nat.{ℕ, zero, suc, ◌+◌, ◌*◌, ◌-◌, ◌^◌, ◌<◌}
use native.Mathlib.Nat.{add-zero, add-suc, suc-add, zero-add, not-suc-le-zero, le_of_suc-le-suc}
use lib.Dec.{T, eqb, ltb, eqb→eq, ltb→lt}
use lib.ListN.{length, get_or}
use mir.Facts.{and_yes, or_yes}
use Rattle.defs.proofs.Search.{same, same_eq}
use Rattle.theory.proofs.Generator.{powers, powers_length, powers_at}
use Rattle.field.specs.Arithmetic.{Powers, Logarithm, Logarithms}

-- f passes at each entry and its place, counted from i
unfoldable pub every : (ℕ → ℕ → Bool) → ℕ → List ℕ → Bool
every f i [] = true
every f i (x ∷ xs) = f i x && every f (suc i) xs

every_from : (f : ℕ → ℕ → Bool) (xs : List ℕ) (i : ℕ) → T (every f i xs)
    → (k : ℕ) → k < length xs → T (f (i + k) (get_or xs k 0))
unfolding every
every_from f [] i t k h = absurd (not-suc-le-zero h)
every_from f (x ∷ xs) i t zero h = rw add-zero (and_yes (f i x) (every f (suc i) xs) t).0
every_from f (x ∷ xs) i t (suc k) h =
    subst (λ (n : ℕ). T (f n (get_or xs k 0))) (suc-add i k ∙ sym (add-suc i k))
    (every_from f xs (suc i) (and_yes (f i x) (every f (suc i) xs) t).1 k (le_of_suc-le-suc h))

every_at : (f : ℕ → ℕ → Bool) (xs : List ℕ) → T (every f 0 xs)
    → (k : ℕ) → k < length xs → T (f k (get_or xs k 0))
every_at f xs t k h = subst (λ (n : ℕ). T (f n (get_or xs k 0))) (zero-add k) (every_from f xs 0 t k h)

-- ---- powers and logarithms, in each field

pub powers_table : (m : ℕ) → 1 < m → {xs : List ℕ} → T (same xs (powers m (2 * (2 ^ m - 1)) 1)) → Powers m xs
powers_table m w {xs} t =
    subst (Powers m) (sym (same_eq xs _ t))
    (record {
      size = powers_length m (2 * (2 ^ m - 1)) 1;
      at = λ i h. powers_at m (2 * (2 ^ m - 1)) i w h;
    })

-- l is the logarithm of a, unless a is 0; exps are the powers below the order
unfoldable pub is_logarithm : ℕ → List ℕ → ℕ → ℕ → Bool
is_logarithm m exps a l = eqb a 0 || (ltb l (2 ^ m - 1) && eqb (get_or exps l 0) a)

pub logarithms_table : (m : ℕ) → 1 < m → (exps : List ℕ) → exps ≡ powers m (2 ^ m - 1) 1
    → {xs : List ℕ} → length xs ≡ 2 ^ m → T (every (is_logarithm m exps) 0 xs) → Logarithms m xs
unfolding is_logarithm
logarithms_table m w exps q {xs} long t = record {
  size = long;
  at = λ a h n. ⊎_elim (λ e. absurd (n (eqb→eq a 0 e))) (found a (get_or xs a 0))
      (or_yes (eqb a 0) _ (every_at (is_logarithm m exps) xs t a (rw long h)));
}
  where
    found : (a l : ℕ) → T (ltb l (2 ^ m - 1) && eqb (get_or exps l 0) a) → Logarithm m a l
    found a l u =
        let (b, e) = and_yes (ltb l (2 ^ m - 1)) (eqb (get_or exps l 0) a) u in
        let h : l < 2 ^ m - 1 = ltb→lt l (2 ^ m - 1) b in
        record {
          power = sym (ap (λ (s : List ℕ). get_or s l 0) q ∙ powers_at m (2 ^ m - 1) l w h) ∙ eqb→eq (get_or exps l 0) a e;
          below = h;
        }
