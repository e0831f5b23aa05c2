-- P1 to P12, the examples worked by hand: one table, one predicate, one theorem.
use Prim.Native.Nat.{ℕ, suc, ◌+◌, ◌*◌, ◌/◌, ◌^◌, ◌<◌}
use mathlib.Core.Path.{◌≡◌, refl, ap, sym, subst}
use mathlib.Core.Bool.{Bool, true, not}
use mathlib.Core.List.{List, [], ◌∷◌}
use native.Mathlib.Omega.{arith}
use lib.Dec.{T, eqb, ltb, leb, eqb→eq, ltb→lt, leb→le, le→leb, T_not}
use lib.ListN.{length, get_or}
use lib.Pow.{pow_pos}
use Rattle.defs.specs.Field.{add, modulus, times2, mul_bits, mul, pow, binom}
use Rattle.defs.specs.Place.{least, tab, total, Symbols, first_high}
use Rattle.defs.specs.Row.{Message, sum, sum_from, coefficient, row_of}
use Rattle.defs.specs.Distance.{agree, agree_at, damage, depths, distance, radius, reach, Near}
use Rattle.defs.specs.Pair.{mixed, Zero, IsPair}
use Rattle.defs.specs.Refusal.{refuse, and_then, answer, kept, Verdict, fine}
use Rattle.defs.specs.Limits.{numbers_verdict, first_twice, code_verdict}
use Rattle.defs.specs.Encode.{symbols_verdict, encode_verdict, Encoded, distance_verdict, distance_answer}
use Rattle.defs.specs.Decode.{decode_verdict, Decoded, found, none}
use Rattle.defs.specs.declared.Refusal.TheVariants.{TooFar}
use Rattle.defs.proofs.Search.{both, either, both_left, both_right, either_other, all, all_at, all_make, every, every_at, any, some, some_found, below, below_at, same, same_eq}
use Rattle.std.proofs.Common.{Err, Ok, is_ok}

-- what a line says
pub data Case : Type 0 where
  product : (m a b c : ℕ) → Case
  encodes : (m r k : ℕ) (points f row : List ℕ) → Case
  decodes : (m r k : ℕ) (points w f : List ℕ) (d : ℕ) (depth : List ℕ) → Case
  decodes_to : (m r k : ℕ) (points w f : List ℕ) (d : ℕ) → Case
  refuses : (m r k : ℕ) (points w : List ℕ) → Case
  nearest : (m r k : ℕ) (points w f : List ℕ) (d : ℕ) → Case
  reaches : (n k t : ℕ) → Case
  accepts_all : (m r k : ℕ) (points : List ℕ) → Case
  a_pair : (m r k : ℕ) (points w Q₀ Q₁ : List ℕ) → Case
  no_pair : (m r k : ℕ) (points w : List ℕ) → Case
  apart : (r : ℕ) (u w : List ℕ) (d : ℕ) → Case

-- a product, or two numbers that are inverse to each other; what the contracts of encode, decode and distance allow, whatever the
-- buffers held; the only message at the least distance; the radius; every row is accepted; a pair; no pair exists
abbrev pub Holds : Case → Type 0
Holds (product m a b c) = mul m a b ≡ c
Holds (encodes m r k points f row) = (buffer : List ℕ) → length buffer ≡ length row → Encoded m r k points f buffer (Ok 0) row
Holds (decodes m r k points w f d depth) =
    (message deep : List ℕ) → length message ≡ k → length deep ≡ length points → Decoded m r k points w message deep (Ok d) f depth
Holds (decodes_to m r k points w f d) =
    (depth : List ℕ)
    × ((message deep : List ℕ) → length message ≡ k → length deep ≡ length points → Decoded m r k points w message deep (Ok d) f depth)
Holds (refuses m r k points w) =
    (message deep : List ℕ) → length message ≡ k → length deep ≡ length points → Decoded m r k points w message deep (Err TooFar) message deep
Holds (nearest m r k points w f d) =
    (distance r (length points) (row_of m r points f) w ≡ d)
    × ((g : List ℕ) → Message m k g → (g ≡ f → ⊥) → d < distance r (length points) (row_of m r points g) w)
Holds (reaches n k t) = radius n k ≡ t
Holds (accepts_all m r k points) = (w : List ℕ) → length w ≡ r * length points → Symbols m w → (f : List ℕ) × Near m r k points w f
Holds (a_pair m r k points w Q₀ Q₁) = IsPair m r k points w Q₀ Q₁
Holds (no_pair m r k points w) = (Q₀ Q₁ : List ℕ) → IsPair m r k points w Q₀ Q₁ → ⊥
Holds (apart r u w d) = distance_answer r u w ≡ Ok d

pub data Every (P : Case → Type 0) : List Case → Type 0 where
  end : Every P []
  more : {c : Case} {cs : List Case} → P c → Every P cs → Every P (c ∷ cs)

pub table : List Case
table =
    -- P1
    product 2 2 2 3
    ∷ product 2 2 3 1
    ∷ product 2 3 3 2
    ∷ product 4 8 2 3
    ∷ product 4 2 9 1
    ∷ product 8 128 2 29
    ∷ product 8 2 142 1
    -- P2
    ∷ encodes 2 2 4 (0 ∷ 1 ∷ 2 ∷ 3 ∷ []) (1 ∷ 2 ∷ 2 ∷ 1 ∷ []) (1 ∷ 2 ∷ 0 ∷ 3 ∷ 2 ∷ 1 ∷ 2 ∷ 0 ∷ [])
    -- P3
    ∷ encodes 2 3 3 (1 ∷ []) (0 ∷ 0 ∷ 1 ∷ []) (1 ∷ 0 ∷ 1 ∷ [])
    -- P4
    ∷ decodes 2 2 4 (0 ∷ 1 ∷ 2 ∷ 3 ∷ []) (1 ∷ 3 ∷ 0 ∷ 3 ∷ 2 ∷ 3 ∷ 2 ∷ 0 ∷ []) (1 ∷ 2 ∷ 2 ∷ 1 ∷ []) 2 (1 ∷ 0 ∷ 1 ∷ 0 ∷ [])
    -- P5
    ∷ decodes 2 2 4 (0 ∷ 1 ∷ 2 ∷ 3 ∷ []) (1 ∷ 0 ∷ 0 ∷ 1 ∷ 0 ∷ 0 ∷ 0 ∷ 0 ∷ []) (1 ∷ 0 ∷ 0 ∷ 1 ∷ []) 2 (0 ∷ 0 ∷ 1 ∷ 1 ∷ [])
    -- P6
    ∷ refuses 2 2 4 (0 ∷ 1 ∷ 2 ∷ 3 ∷ []) (1 ∷ 0 ∷ 0 ∷ 2 ∷ 0 ∷ 0 ∷ 0 ∷ 0 ∷ [])
    ∷ a_pair 2 2 4 (0 ∷ 1 ∷ 2 ∷ 3 ∷ []) (1 ∷ 0 ∷ 0 ∷ 2 ∷ 0 ∷ 0 ∷ 0 ∷ 0 ∷ []) (1 ∷ 1 ∷ 1 ∷ 1 ∷ 1 ∷ 1 ∷ []) (1 ∷ 1 ∷ 3 ∷ [])
    -- P7
    ∷ decodes_to 2 3 1 (0 ∷ []) (2 ∷ 0 ∷ 1 ∷ []) (2 ∷ []) 1
    -- P8
    ∷ refuses 2 3 1 (0 ∷ []) (2 ∷ 1 ∷ 0 ∷ [])
    ∷ nearest 2 3 1 (0 ∷ []) (2 ∷ 1 ∷ 0 ∷ []) (2 ∷ []) 2
    ∷ reaches 3 1 1
    -- P9
    ∷ decodes_to 2 1 2 (0 ∷ 1 ∷ []) (1 ∷ 3 ∷ []) (1 ∷ 2 ∷ []) 0
    ∷ reaches 2 2 0
    ∷ accepts_all 2 1 2 (0 ∷ 1 ∷ [])
    -- P10
    ∷ refuses 2 1 2 (0 ∷ 1 ∷ 2 ∷ []) (0 ∷ 0 ∷ 1 ∷ [])
    ∷ no_pair 2 1 2 (0 ∷ 1 ∷ 2 ∷ []) (0 ∷ 0 ∷ 1 ∷ [])
    -- P11
    ∷ decodes_to 2 1 1 (0 ∷ []) (3 ∷ []) (3 ∷ []) 0
    -- P12
    ∷ apart 2 (0 ∷ 1 ∷ []) (2 ∷ 1 ∷ []) 2
    ∷ apart 2 (0 ∷ 1 ∷ []) (0 ∷ 2 ∷ []) 1
    ∷ []

-- ---- the test of a case, which antt computes

passed_fine : (v : Verdict) → T (is_ok v) → v ≡ fine
passed_fine (Ok _) t = refl
passed_fine (Err x) t = absurd t

apartness : ℕ → ℕ → List ℕ → List ℕ → List ℕ → ℕ
apartness m r points w f = distance r (length points) (row_of m r points f) w

is_near : ℕ → ℕ → ℕ → List ℕ → List ℕ → List ℕ → Bool
is_near m r k points w f = leb (apartness m r points w f) (reach r k points)

accepted : ℕ → ℕ → ℕ → List ℕ → List ℕ → List ℕ → ℕ → Bool
accepted m r k points w f d =
    both (is_ok (decode_verdict m r k points w k (length points)))
    (both (eqb (length f) k) (both (below (2 ^ m) f) (both (is_near m r k points w f) (eqb (apartness m r points w f) d))))

vanishing : ℕ → ℕ → List ℕ → List ℕ → List ℕ → List ℕ → Bool
vanishing m r points w Q₀ Q₁ = all (length points) (λ i. all r (λ j. eqb (mixed m r points w Q₀ Q₁ i j) 0))

test : Case → Bool
test (product m a b c) = eqb (mul m a b) c
test (encodes m r k points f row) = both (is_ok (encode_verdict m r k points f (length row))) (same (row_of m r points f) row)
test (decodes m r k points w f d depth) =
    both (accepted m r k points w f d) (same (depths r (length points) (row_of m r points f) w) depth)
test (decodes_to m r k points w f d) = accepted m r k points w f d
test (refuses m r k points w) =
    both (is_ok (decode_verdict m r k points w k (length points))) (every (2 ^ m) k (λ f. not (is_near m r k points w f)))
test (nearest m r k points w f d) =
    both (eqb (apartness m r points w f) d) (every (2 ^ m) k (λ g. either (same g f) (ltb d (apartness m r points w g))))
test (reaches n k t) = eqb (radius n k) t
test (accepts_all m r k points) = every (2 ^ m) (r * length points) (λ w. some (2 ^ m) k (is_near m r k points w))
test (a_pair m r k points w Q₀ Q₁) =
    both (eqb (length Q₀) ((r * length points + k) / 2))
    (both (eqb (length Q₁) (suc (reach r k points)))
    (both (below (2 ^ m) Q₀) (both (below (2 ^ m) Q₁) (both (not (eqb (get_or Q₀ 0 0) 0)) (vanishing m r points w Q₀ Q₁)))))
test (no_pair m r k points w) =
    every (2 ^ m) ((r * length points + k) / 2)
    (λ Q₀. every (2 ^ m) (suc (reach r k points))
    (λ Q₁. either (both (below 1 Q₀) (below 1 Q₁)) (not (vanishing m r points w Q₀ Q₁))))
test (apart r u w d) = both (is_ok (distance_verdict r (length u) (length w))) (eqb (distance r (length u / r) u w) d)

passed : List Case → Bool
passed [] = true
passed (c ∷ cs) = both (test c) (passed cs)

-- ---- a case that passes its test holds

zero_at : (f : List ℕ) → T (below 1 f) → Zero f
zero_at f t i = omega (arith, below_at 1 f (omega arith) t i)

vanished : (m r : ℕ) (points w Q₀ Q₁ : List ℕ) → ((i : ℕ) → i < length points → (j : ℕ) → j < r → mixed m r points w Q₀ Q₁ i j ≡ 0)
    → T (vanishing m r points w Q₀ Q₁)
unfolding vanishing
vanished m r points w Q₀ Q₁ z =
    all_make (length points) (λ i. all r (λ j. eqb (mixed m r points w Q₀ Q₁ i j) 0))
    (λ i l. all_make r (λ j. eqb (mixed m r points w Q₀ Q₁ i j) 0) (λ j l'. subst (λ (x : ℕ). T (eqb x 0)) (sym (z i l j l')) tt))

vanishes_at : (m r : ℕ) (points w Q₀ Q₁ : List ℕ) → T (vanishing m r points w Q₀ Q₁)
    → (i : ℕ) → i < length points → (j : ℕ) → j < r → mixed m r points w Q₀ Q₁ i j ≡ 0
unfolding vanishing
vanishes_at m r points w Q₀ Q₁ t i l j l' = eqb→eq _ _ (all_at r _ (all_at (length points) _ t i l) j l')

accept : (m r k : ℕ) (points w f : List ℕ) (d : ℕ) → T (accepted m r k points w f d)
    → (message deep : List ℕ) → length message ≡ k → length deep ≡ length points
    → Decoded m r k points w message deep (Ok d) f (depths r (length points) (row_of m r points f) w)
unfolding accepted is_near apartness
accept m r k points w f d t message deep e e' =
    let t₁ = both_right (is_ok (decode_verdict m r k points w k (length points))) _ t in
    let t₂ = both_right (eqb (length f) k) _ t₁ in
    let t₃ = both_right (below (2 ^ m) f) _ t₂ in
    let t₄ = both_right (is_near m r k points w f) _ t₃ in
    found f (rw (e, e') (passed_fine _ (both_left _ _ t)))
    (record {
      message = record { size = eqb→eq _ _ (both_left _ _ t₁); symbols = below_at (2 ^ m) f (pow_pos m) (both_left _ _ t₂) };
      within = leb→le _ _ (both_left _ _ t₃);
    })
    (ap Ok (sym (eqb→eq _ _ t₄))) refl refl

sound : (c : Case) → T (test c) → Holds c
unfolding test is_near apartness distance_answer answer kept
sound (product m a b c) t = eqb→eq _ _ t
sound (encodes m r k points f row) t = λ buffer e.
    let v : encode_verdict m r k points f (length buffer) ≡ fine = rw e (passed_fine _ (both_left _ _ t)) in
    record { answers = rw v; leaves = rw v (sym (same_eq _ _ (both_right _ _ t))) }
sound (decodes m r k points w f d depth) t = λ message deep e e'.
    subst (λ (s : List ℕ). Decoded m r k points w message deep (Ok d) f s) (same_eq _ _ (both_right (accepted m r k points w f d) _ t))
    (accept m r k points w f d (both_left _ _ t) message deep e e')
sound (decodes_to m r k points w f d) t = (depths r (length points) (row_of m r points f) w, accept m r k points w f d t)
sound (refuses m r k points w) t = λ message deep e e'.
    none (rw (e, e') (passed_fine _ (both_left _ _ t)))
    (λ f n. T_not (is_near m r k points w f) (every_at (2 ^ m) k _ (both_right _ _ t) f n.message.size n.message.symbols) (le→leb _ _ n.within))
    refl refl refl
sound (nearest m r k points w f d) t = (
  eqb→eq _ _ (both_left _ _ t),
  λ g g_is ne. ltb→lt _ _ (either_other (same g f) _ (λ s. ne (same_eq g f s)) (every_at (2 ^ m) k _ (both_right _ _ t) g g_is.size g_is.symbols)),
)
sound (reaches n k t) u = eqb→eq _ _ u
sound (accepts_all m r k points) t = λ w e s.
    let x = some_found (2 ^ m) k _ (pow_pos m) (every_at (2 ^ m) (r * length points) _ t w e s) in
    (x.0, record { message = record { size = x.1; symbols = x.2 }; within = leb→le _ _ x.3 })
sound (a_pair m r k points w Q₀ Q₁) t =
    let t₁ = both_right (eqb (length Q₀) ((r * length points + k) / 2)) _ t in
    let t₂ = both_right (eqb (length Q₁) (suc (reach r k points))) _ t₁ in
    let t₃ = both_right (below (2 ^ m) Q₀) _ t₂ in
    let t₄ = both_right (below (2 ^ m) Q₁) _ t₃ in
    record {
      size₀ = eqb→eq _ _ (both_left _ _ t);
      size₁ = eqb→eq _ _ (both_left _ _ t₁);
      symbols₀ = below_at (2 ^ m) Q₀ (pow_pos m) (both_left _ _ t₂);
      symbols₁ = below_at (2 ^ m) Q₁ (pow_pos m) (both_left _ _ t₃);
      nonzero = λ z₀ z₁. T_not (eqb (get_or Q₀ 0 0) 0) (both_left _ _ t₄) (subst (λ (x : ℕ). T (eqb x 0)) (sym (z₀ 0)) tt);
      vanishes = vanishes_at m r points w Q₀ Q₁ (both_right (not (eqb (get_or Q₀ 0 0) 0)) _ t₄);
    }
sound (no_pair m r k points w) t = λ Q₀ Q₁ p.
    let u = every_at (2 ^ m) (suc (reach r k points)) _
    (every_at (2 ^ m) ((r * length points + k) / 2) _ t Q₀ p.size₀ p.symbols₀) Q₁ p.size₁ p.symbols₁ in
    T_not (vanishing m r points w Q₀ Q₁) (either_other (both (below 1 Q₀) (below 1 Q₁)) _
    (λ z. p.nonzero (zero_at Q₀ (both_left (below 1 Q₀) _ z)) (zero_at Q₁ (both_right (below 1 Q₀) _ z))) u)
    (vanished m r points w Q₀ Q₁ p.vanishes)
sound (apart r u w d) t = rw (passed_fine _ (both_left _ _ t)) (ap Ok (eqb→eq _ _ (both_right _ _ t)))

every_sound : (cs : List Case) → T (passed cs) → Every Holds cs
unfolding passed
every_sound [] t = end
every_sound (c ∷ cs) t = more (sound c (both_left (test c) (passed cs) t)) (every_sound cs (both_right (test c) (passed cs) t))

tested : T (passed table)
unfolding test passed table accepted is_near apartness vanishing both either all every any some below same add modulus times2 mul_bits mul pow binom least tab total first_high sum sum_from coefficient row_of agree agree_at damage depths distance radius mixed refuse and_then numbers_verdict first_twice code_verdict symbols_verdict encode_verdict distance_verdict decode_verdict
tested = tt

-- P1 to P12 hold of the definitions
pub hand_worked : Every Holds table
hand_worked = every_sound table tested
