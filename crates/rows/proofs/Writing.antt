-- A row that is written chunk after chunk.
use Prim.Native.Nat.{ℕ, ◌+◌, ◌*◌, ◌^◌, ◌<◌, ◌≤◌}
use mathlib.Core.Path.{◌≡◌, refl, ap, sym, subst, ◌∙◌}
use mathlib.Core.List.{List, ◌++◌, append-nil, append_assoc}
use native.Mathlib.Nat.{mul_comm, zero-mul, suc-mul}
use native.Mathlib.Numerals.{add-one}
use native.Mathlib.Omega.{arith}
use lib.ListN.{length, get_or, take, drop, drop_of_length-le}
use lib.Seq.{length-take-le, take_all, take_at, drop-append-add, drop-drop}
use Rattle.defs.specs.Place.{tab}
use Rattle.defs.specs.Row.{Message, coefficient, row_of}
use Rattle.defs.specs.Limits.{longest}
use Rattle.defs.specs.declared.Code.{Code}
use Rattle.theory.specs.Fill.{filled}
use Rattle.theory.specs.Limits.{Numbers}
use Rattle.theory.proofs.Place.{tab_same, tab_take}
use Rattle.theory.proofs.Row.{length_row, row_step}
use Rattle.code.proofs.Known.{code_numbers, code_symbols, code_point}
use Rattle.code.specs.Chunk.{chunk_of}
use Rattle.rows.specs.Tables.{PowersOf, LogsFor, LogsOf}
use Rattle.rows.specs.Chunk.{Evaluable}
use Rattle.code.proofs.Outcome.{is_code}
use Rattle.code.proofs.Chunks.{chunk_at}

-- the part of a row that is copied from the front of a chunk
pub part_filled : (row chunk part : List ℕ) (at r k : ℕ) → k ≡ r → r ≤ length chunk → part ≡ take r chunk
    → take at row ++ (part ++ drop k (drop at row)) ≡ filled row at (λ j. get_or chunk j 0) r
unfolding filled
part_filled row chunk part at r k e l h =
    rw (e, h, ← tab_take chunk r l, drop-drop r at row) (sym (append_assoc (take at row) (tab (λ j. get_or chunk j 0) r) (drop (at + r) row)))

-- n new values behind a list that is at long
filled_behind : (done d : List ℕ) (at n : ℕ) (F : ℕ → ℕ) → length done ≡ at → filled (done ++ drop at d) at F n ≡ done ++ tab F n ++ drop (at + n) d
unfolding filled
filled_behind done d at n F e =
    rw (take_at done (drop at d) at e, ← e, drop-append-add done (drop (length done) d) n, drop-drop n (length done) d)

front_long : (m r : ℕ) (points f : List ℕ) (i : ℕ) → i ≤ length points → length (row_of m r (take i points) f) ≡ i * r
front_long m r points f i l = length_row m r (take i points) f ∙ ap (λ (n : ℕ). r * n) (length-take-le i points l) ∙ mul_comm r i

module _ (m r : ℕ) (points f old : List ℕ) where
  -- the chunks of the first i points, and behind them what stood there before
  unfoldable pub written : ℕ → List ℕ
  written i = row_of m r (take i points) f ++ drop (i * r) old

  pub written_none : old ≡ written 0
  unfolding written row_of
  written_none = rw zero-mul refl

  pub written_more : (i : ℕ) (row row' chunk : List ℕ) → row ≡ written i → i < length points → chunk ≡ chunk_of r (coefficient m f (get_or points i 0))
      → row' ≡ filled row (i * r) (λ j. get_or chunk j 0) r → row' ≡ written (i + 1)
  unfolding written
  written_more i row row' chunk b l e w =
      w ∙ ap (λ (x : List ℕ). filled x (i * r) (λ j. get_or chunk j 0) r) b
      ∙ filled_behind (row_of m r (take i points) f) old (i * r) r _ (front_long m r points f i (omega arith))
      ∙ ap (λ (x : List ℕ). row_of m r (take i points) f ++ x ++ drop (i * r + r) old) (tab_same _ (coefficient m f (get_or points i 0)) r symbol)
      ∙ ap (λ (x : List ℕ). x ++ drop (i * r + r) old) (sym (row_step m r points f i l) ∙ ap (λ (n : ℕ). row_of m r (take n points) f) (sym (add-one i)))
      ∙ ap (λ (n : ℕ). row_of m r (take (i + 1) points) f ++ drop n old) (omega (arith, suc-mul i r, ap (λ (n : ℕ). n * r) (add-one i)))
    where
      symbol : (j : ℕ) → j < r → get_or chunk j 0 ≡ coefficient m f (get_or points i 0) j
      symbol j n = ap (λ (x : List ℕ). get_or x j 0) e ∙ chunk_at r _ j n

  pub written_all : (i : ℕ) → i ≡ length points → length old ≡ r * length points → written i ≡ row_of m r points f
  unfolding written
  written_all i same room =
      let e : length old ≤ i * r = omega (arith, mul_comm i r, ap (λ (n : ℕ). r * n) same) in
      rw (take_all i points (omega arith), drop_of_length-le old e) (append-nil (row_of m r points f))

-- a message of a code is no longer than a row
pub short : (c : Code) (f : List ℕ) → Message c.m c.k f → length f ≤ longest
short c f h = let n : Numbers c.m c.r c.k c.count = code_numbers (is_code c) in omega (arith, h.size, n.k_top, n.row_top)

-- the tables of a code's message and one of its points are what `evaluate` asks for
pub evaluable : (c : Code) (f : List ℕ) → Message c.m c.k f → (symbols logs powers : List ℕ) → LogsOf c.m f symbols → LogsFor c.m logs → PowersOf c.m powers
    → (i : ℕ) → i < c.count → Evaluable c.m c.r (get_or c.points i 0) f symbols logs powers
evaluable c f h symbols logs powers s g p i l =
    let n : Numbers c.m c.r c.k c.count = code_numbers (is_code c) in record {
      width = n.width;
      short = short c f h;
      symbols_are = s;
      powers_are = p;
      depth = (n.r_pos, n.r_top);
      point = subst (λ (P : ℕ). P < 2 ^ c.m) (sym (code_point (is_code c) i l)) (code_symbols (is_code c) i);
      message = h.symbols;
      logs_are = g;
    }
