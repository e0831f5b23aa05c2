-- Rows as flat lists: chunk i, symbol j stands at i * r + j.
use Prim.Native.Nat.{ℕ, zero, suc, ◌+◌, ◌*◌, ◌^◌, ◌<◌, suc-le-suc}
use mathlib.Core.Path.{◌≡◌, refl, ap, sym, ◌∙◌}
use mathlib.Core.List.{List, [], ◌∷◌, ◌++◌, append_assoc, append-nil}
use native.Mathlib.Nat.{not-suc-le-zero, le_of_suc-le-suc, mul-zero, mul-suc, zero-mul, suc-mul}
use native.Mathlib.Omega.{arith}
use lib.ListN.{length, get_or, take, length-append, get_or-append}
use lib.Seq.{get_or-append-add}
use lib.Pow.{pow_pos}
use Rattle.defs.specs.Place.{tab, total, Symbols}
use Rattle.defs.specs.Row.{coefficient, row_of}
use Rattle.defs.specs.Distance.{symbol, agree_at, damage, distance}
use Rattle.theory.specs.Chunks.{agreement, apart, row_at}
use Rattle.theory.proofs.Place.{length_tab, get_d_tab}
use Rattle.theory.proofs.Linear.{h_lt}
use Rattle.theory.proofs.Formula.{coefficient_h}
use Rattle.theory.proofs.Chunks.{agreement_ext, apart_ext}

append_symbols : (m : ℕ) (u w : List ℕ) → Symbols m u → Symbols m w → Symbols m (u ++ w)
append_symbols m [] w o o' i = o' i
append_symbols m (x ∷ u) w o o' zero = o 0
append_symbols m (x ∷ u) w o o' (suc i) = append_symbols m u w (λ j. o (suc j)) o' i

pub tab_symbols : (m : ℕ) (F : ℕ → ℕ) (n : ℕ) → ((i : ℕ) → i < n → F i < 2 ^ m) → Symbols m (tab F n)
unfolding tab
tab_symbols m F zero o i = pow_pos m
tab_symbols m F (suc n) o zero = o 0 (omega arith)
tab_symbols m F (suc n) o (suc i) = tab_symbols m (λ j. F (suc j)) n (λ j l. o (suc j) (suc-le-suc l)) i

pub length_row : (m r : ℕ) (points f : List ℕ) → length (row_of m r points f) ≡ r * length points
unfolding row_of
length_row m r [] f = sym (mul-zero r)
length_row m r (P ∷ points) f =
    length-append (tab (coefficient m f P) r) (row_of m r points f)
    ∙ omega (arith, length_tab (coefficient m f P) r, length_row m r points f, mul-suc r (length points))

-- the symbol j of chunk i
pub row_at_lem : (m r : ℕ) (points f : List ℕ) (i j : ℕ) → i < length points → j < r
    → symbol r (row_of m r points f) i j ≡ coefficient m f (get_or points i 0) j
unfolding row_of
row_at_lem m r [] f i j l l' = absurd (not-suc-le-zero l)
row_at_lem m r (P ∷ points) f zero j l l' =
    let here : List ℕ = tab (coefficient m f P) r in
    let e : 0 * r + j ≡ j = omega (arith, zero-mul r) in
    ap (λ (x : ℕ). get_or (here ++ row_of m r points f) x 0) e
    ∙ get_or-append here _ 0 j (omega (arith, length_tab (coefficient m f P) r)) ∙ get_d_tab (coefficient m f P) r j l'
row_at_lem m r (P ∷ points) f (suc i) j l l' =
    let here : List ℕ = tab (coefficient m f P) r in
    let e : suc i * r + j ≡ length here + (i * r + j) = omega (arith, suc-mul i r, length_tab (coefficient m f P) r) in
    ap (λ (x : ℕ). get_or (here ++ row_of m r points f) x 0) e
    ∙ get_or-append-add here (row_of m r points f) (i * r + j) 0 ∙ row_at_lem m r points f i j (le_of_suc-le-suc l) l'

-- one chunk more
pub row_step : (m r : ℕ) (points f : List ℕ) (i : ℕ) → i < length points
    → row_of m r (take (suc i) points) f ≡ row_of m r (take i points) f ++ tab (coefficient m f (get_or points i 0)) r
unfolding row_of
row_step m r [] f i l = absurd (not-suc-le-zero l)
row_step m r (P ∷ points) f zero l = append-nil (tab (coefficient m f P) r)
row_step m r (P ∷ points) f (suc i) l =
    ap (λ (x : List ℕ). tab (coefficient m f P) r ++ x) (row_step m r points f i (le_of_suc-le-suc l))
    ∙ sym (append_assoc (tab (coefficient m f P) r) (row_of m r (take i points) f) _)

pub coefficient_lt : (m P j : ℕ) (f : List ℕ) → Symbols m f → coefficient m f P j < 2 ^ m
coefficient_lt m P j f o = rw (coefficient_h m P j f o) (h_lt m P j f o)

pub row_symbols : (m r : ℕ) (points f : List ℕ) → Symbols m f → Symbols m (row_of m r points f)
unfolding row_of
row_symbols m r [] f o i = pow_pos m
row_symbols m r (P ∷ points) f o i =
    append_symbols m (tab (coefficient m f P) r) (row_of m r points f)
    (tab_symbols m _ r (λ j l. coefficient_lt m P j f o)) (row_symbols m r points f o) i

-- ---- flat rows as rows of chunks that all have the depth r

module _ (m r : ℕ) (points f : List ℕ) (o : Symbols m f) where
  abbrev row : ℕ → ℕ → ℕ
  row = row_at m (λ i. get_or points i 0) f

  row_h : (i : ℕ) → i < length points → (j : ℕ) → j < r → symbol r (row_of m r points f) i j ≡ row i j
  row_h i l j l' = row_at_lem m r points f i j l l' ∙ coefficient_h m _ j f o

  pub row_distance : (w : List ℕ) → distance r (length points) (row_of m r points f) w ≡ apart (length points) (λ i. r) row (symbol r w)
  unfolding distance damage agree_at apart
  row_distance w = apart_ext (length points) (λ i. r) (symbol r (row_of m r points f)) row (symbol r w) (symbol r w) row_h (λ i l j l'. refl)

  pub row_agreement : (g : List ℕ) → Symbols m g
      → total (length points) (agree_at r (row_of m r points f) (row_of m r points g)) ≡ agreement (length points) (λ i. r) row (row_at m (λ i. get_or points i 0) g)
  unfolding agree_at agreement
  row_agreement g o' =
      agreement_ext (length points) (λ i. r) (symbol r (row_of m r points f)) row (symbol r (row_of m r points g)) _ row_h
      (λ i l j l'. row_at_lem m r points g i j l l' ∙ coefficient_h m _ j g o')
