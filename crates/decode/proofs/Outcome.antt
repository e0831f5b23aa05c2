-- The ways out of the checks, of the search and of the call.
use Prim.Native.Nat.{ℕ, ◌*◌, ◌^◌, ◌<◌, ◌≤◌}
use Rattle.std.specs.Prelude.{None}
use mathlib.Core.Path.{◌≡◌, refl, ap, sym, ◌∙◌}
use mathlib.Core.List.{List}
use native.Mathlib.Nat.{mul_comm}
use native.Mathlib.Decide.{dec_lt}
use native.Mathlib.Omega.{arith}
use lib.ListN.{length, get_or, take, length-take, get_or-eq_default}
use lib.Seq.{length-take-le, get_or-take}
use lib.Pow.{pow_pos}
use borrow.Author.Tests.{eq-eqb, ne_eqb}
use Rattle.defs.specs.Place.{tab, Symbols}
use Rattle.defs.specs.Distance.{damage, depths, distance}
use Rattle.defs.specs.Row.{Message, row_of}
use Rattle.defs.specs.Refusal.{refuse, and_then, Answer, fine}
use Rattle.defs.specs.Limits.{longest, code_verdict, Inside}
use Rattle.defs.specs.Encode.{symbols_verdict}
use Rattle.defs.specs.Decode.{decode_verdict, Decoded, refused, found, none}
use Rattle.defs.specs.declared.Refusal.{Refusal}
use Rattle.defs.specs.declared.Refusal.TheVariants.{Length, TooFar}
use Rattle.theory.specs.Fill.{filled}
use Rattle.theory.proofs.Fill.{filled_all}
use Rattle.defs.specs.declared.Code.{Code}
use Rattle.theory.proofs.Limits.{count_small}
use Rattle.theory.proofs.Checks.{decode_known}
use Rattle.code.specs.Checked.{points_of, CodeOf}
use Rattle.code.proofs.Outcome.{is_code, points_are}
use Rattle.code.proofs.Known.{code_numbers}
use Rattle.rows.specs.Chunk.{Rows, Writable}
use Rattle.pair.specs.Found.{IsRow}
use Rattle.decode.specs.declared.Sought.{Sought}
use Rattle.decode.specs.Search.{rest_verdict, Candidate, Nearby, IsSought, Measured}
use Rattle.std.proofs.Common.{Err, Ok}

module _ (c : Code) (w : List ℕ) (size deep : ℕ) where
  pub rest_row : (length w ≡ c.r * c.count → ⊥) → rest_verdict c w size deep ≡ Err Length
  unfolding rest_verdict refuse
  rest_row ne = rw (ne_eqb (length w) (c.r * c.count) ne)

  module _ (e : length w ≡ c.r * c.count) where
    pub rest_message : (size ≡ c.k → ⊥) → rest_verdict c w size deep ≡ Err Length
    unfolding rest_verdict refuse
    rest_message ne = rw (eq-eqb (length w) (c.r * c.count) e, ne_eqb size c.k ne)

    module _ (e' : size ≡ c.k) where
      pub rest_depths : (deep ≡ c.count → ⊥) → rest_verdict c w size deep ≡ Err Length
      unfolding rest_verdict refuse
      rest_depths ne = rw (eq-eqb (length w) (c.r * c.count) e, eq-eqb size c.k e', ne_eqb deep c.count ne)

      pub rest_symbols : deep ≡ c.count → rest_verdict c w size deep ≡ symbols_verdict c.m w
      unfolding rest_verdict refuse
      rest_symbols e'' = rw (eq-eqb (length w) (c.r * c.count) e, eq-eqb size c.k e', eq-eqb deep c.count e'')

-- the end of the loop that writes the depths
pub measured : (r : ℕ) (u w depth now : List ℕ) {i count : ℕ} → i ≡ length depth → length depth ≡ count → now ≡ filled depth 0 (damage r u w) i
    → (t : ℕ) → t ≡ distance r i u w → Measured r u w count t now
unfolding depths
measured r u w depth now {i} q l e t f =
    let F : ℕ → ℕ = damage r u w in
    record { each = e ∙ filled_all depth F i q ∙ ap (tab F) l; all = f ∙ ap (λ (n : ℕ). distance r n u w) (q ∙ l) }

pub message_top : (c : Code) → c.k ≤ longest
message_top c = let N = code_numbers (is_code c) in omega (arith, N.k_top, N.row_top)

-- a row that stands at the front of an array, and another, both of n symbols
pub rows_front : (c : Code) (u w : List ℕ) (n : ℕ) → n ≡ length w → length w ≡ c.r * c.count → length u ≡ longest → Rows c.r c.count (take n u) w
rows_front c u w n e f g =
    let N = code_numbers (is_code c) in
    let s : c.count * c.r ≤ n = omega (arith, mul_comm c.count c.r) in
    record {
      depth = N.r_top;
      few = omega (arith, count_small N);
      left = omega (arith, length-take-le n u (omega (arith, N.row_top)));
      right = omega arith;
    }

-- what a candidate for a message says
module _ {c : Code} {f : List ℕ} {n : ℕ} (x : Candidate c f n) where
  pub row_short : n ≤ longest
  row_short = omega (arith, x.size, (code_numbers (is_code c)).row_top)

  pub message_within : c.k ≤ length f
  message_within = omega (arith, x.long, message_top c)

  pub front_message : Message c.m c.k (take c.k f)
  front_message =
      record { size = length-take-le c.k f message_within; symbols = λ i. take_symbol i (dec_lt i c.k) }
    where
      take_symbol : (i : ℕ) → Dec (i < c.k) → get_or (take c.k f) i 0 < 2 ^ c.m
      take_symbol i (yes l) = rw (get_or-take c.k f i 0 l) (x.symbols i)
      take_symbol i (no l) = rw (get_or-eq_default (take c.k f) 0 {n = i} (omega (arith, length-take c.k f))) (pow_pos c.m)

  pub writable : (row : List ℕ) → length row ≡ n → Writable c (take c.k f) row
  writable row e = record { message = front_message; room = e ∙ x.size }

-- the ways out of the call
module _ (m r k : ℕ) (points w message depth : List ℕ) where
  pub code_refused : (x : Refusal) → code_verdict longest m r k points ≡ Err x → Decoded m r k points w message depth (Err x) message depth
  unfolding decode_verdict and_then
  code_refused x e = refused x (rw e) refl refl refl

-- c has passed the check, and is the code of these numbers and points
module _ (c : Code) (w message depth : List ℕ) where
  rest_is : decode_verdict c.m c.r c.k (points_of c) w (length message) (length depth) ≡ rest_verdict c w (length message) (length depth)
  unfolding decode_verdict and_then rest_verdict
  rest_is = rw ((is_code c).inside, (is_code c).counted)

  module _ (passed : rest_verdict c w (length message) (length depth) ≡ fine) where
    facts : Inside c.m c.r c.k (points_of c) × (length w ≡ c.r * length (points_of c)) × (length message ≡ c.k) × (length depth ≡ length (points_of c)) × Symbols c.m w
    facts = decode_known c.m c.r c.k (points_of c) w (length message) (length depth) (rest_is ∙ passed)

    pub room : (length message ≡ c.k) × (length depth ≡ c.count)
    room = (facts.2, facts.3 ∙ (is_code c).counted)

    pub is_row : IsRow c w
    is_row = record { size = facts.1 ∙ ap (λ (i : ℕ). c.r * i) (is_code c).counted; symbols = facts.4 }

  module _ {m r k : ℕ} {points : List ℕ} (o : CodeOf m r k points c) where
    -- what is answered for c is answered for them
    for_code : (a : Answer) (message' depth' : List ℕ)
        → Decoded c.m c.r c.k (points_of c) w message depth a message' depth' → Decoded m r k points w message depth a message' depth'
    for_code a message' depth' d = rw (o.m_is, o.r_is, o.k_is, points_are m r k points c o) at d

    pub rest_refused : (x : Refusal) → rest_verdict c w (length message) (length depth) ≡ Err x → Decoded m r k points w message depth (Err x) message depth
    rest_refused x e = for_code _ _ _ (refused x (rest_is ∙ e) refl refl refl)

    module _ (passed : rest_verdict c w (length message) (length depth) ≡ fine) where
      pub nothing_near : IsSought c w None → Decoded m r k points w message depth (Err TooFar) message depth
      nothing_near far = for_code _ _ _ (none (rest_is ∙ passed) far refl refl refl)

      pub decoded : (s : Sought) → Nearby c w s → (t : ℕ) (depth' : List ℕ) → Measured c.r (take (length w) s.row) w c.count t depth'
          → Decoded m r k points w message depth (Ok t) (take c.k s.message) depth'
      decoded s x t depth' d =
          let n : c.count ≡ length (points_of c) = sym (is_code c).counted in
          let u : List ℕ = row_of c.m c.r (points_of c) (take c.k s.message) in
          for_code _ _ _ (found (take c.k s.message) (rest_is ∙ passed) x.near
          (ap Ok (d.all ∙ ap (λ (u : List ℕ). distance c.r c.count u w) x.sent.row ∙ ap (λ (i : ℕ). distance c.r i u w) n))
          refl
          (d.each ∙ ap (λ (u : List ℕ). depths c.r c.count u w) x.sent.row ∙ ap (λ (i : ℕ). depths c.r i u w) n))
