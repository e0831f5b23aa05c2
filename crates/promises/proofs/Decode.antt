-- Decode: one outcome for every input, done exactly where a message is near, damage within the radius repaired, a refusal changes nothing.
use Prim.Native.Nat.{ℕ, ◌+◌, ◌*◌, ◌-◌, ◌/◌, ◌≤◌}
use mathlib.Core.Path.{◌≡◌, refl, sym, ◌∙◌}
use mathlib.Core.List.{List}
use lib.ListN.{length}
use Rattle.defs.specs.Place.{Symbols}
use Rattle.defs.specs.Row.{Message, row_of}
use Rattle.defs.specs.Distance.{depths, distance, reach, Near}
use Rattle.defs.specs.Limits.{Inside}
use Rattle.defs.specs.Encode.{Encoded}
use Rattle.defs.specs.Decode.{decode_verdict, Decoded, refused, found, none}
use Rattle.defs.specs.Line.{line_of}
use Rattle.defs.specs.declared.Refusal.{Refusal}
use Rattle.defs.specs.declared.Refusal.TheVariants.{TooFar}
use Rattle.theory.specs.Demand3.{damaged_chunks}
use Rattle.theory.proofs.Demand3.{near_unique, chunks_near}
use Rattle.theory.proofs.Checks.{decode_known, decode_fine}
use Rattle.theory.proofs.Verdict.{apart}
use Rattle.promises.proofs.Encode.{done_encode, encode_done}
use Rattle.std.proofs.Common.{Err, Ok}
use Rattle.defs.specs.Refusal.{Answer, fine}

refused_done : (a : Answer) (d : ℕ) (x : Refusal) → a ≡ Ok d → a ≡ Err x → ⊥
refused_done a d x e e' = apart cc

module _ (m r k : ℕ) (points w message depth : List ℕ) where
  abbrev Outcome : Answer → List ℕ → List ℕ → Type 0
  Outcome = Decoded m r k points w message depth

  -- the input passes the checks
  abbrev Passes : Type 0
  Passes = decode_verdict m r k points w (length message) (length depth) ≡ fine

  one : Passes → (f g : List ℕ) → Near m r k points w f → Near m r k points w g → f ≡ g
  one v f g = near_unique m r k points (decode_known m r k points w _ _ v).0 w f g

  pub decode_same : (a b : Answer) (s t u x : List ℕ) → Outcome a s t → Outcome b u x → (a ≡ b) × (s ≡ u) × (t ≡ x)
  decode_same a b s t u x (refused y e p q h) (refused y' e' p' q' h') = (cc, cc, cc)
  decode_same a b s t u x (refused y e p q h) (found f e' n p' q' h') = (cc, cc, cc)
  decode_same a b s t u x (refused y e p q h) (none e' n p' q' h') = (cc, cc, cc)
  decode_same a b s t u x (found f e n p q h) (refused y e' p' q' h') = (cc, cc, cc)
  decode_same a b s t u x (found f e n p q h) (found g e' n' p' q' h') = let i = one e f g n n' in (cc, cc, cc)
  decode_same a b s t u x (found f e n p q h) (none e' n' p' q' h') = absurd (n' f n)
  decode_same a b s t u x (none e n p q h) (refused y e' p' q' h') = (cc, cc, cc)
  decode_same a b s t u x (none e n p q h) (found g e' n' p' q' h') = absurd (n g n')
  decode_same a b s t u x (none e n p q h) (none e' n' p' q' h') = (cc, cc, cc)

  module _ (a : Answer) (message' depth' : List ℕ) where
    pub decode_refused : (x : Refusal) → a ≡ Err x → Outcome a message' depth' → (message' ≡ message) × (depth' ≡ depth)
    decode_refused x e (refused y v p q h) = (q, h)
    decode_refused x e (found f v n p q h) = (cc, cc)
    decode_refused x e (none v n p q h) = (q, h)

    -- what it finds where f is near
    pub decode_done : Passes → (f : List ℕ) → Near m r k points w f → Outcome a message' depth'
        → (a ≡ Ok (distance r (length points) (row_of m r points f) w)) × (message' ≡ f)
        × (depth' ≡ depths r (length points) (row_of m r points f) w)
    decode_done v f near x =
        decode_same a _ message' depth' f _ x (found f v near refl refl refl)

    pub done_decode : (d : ℕ) → a ≡ Ok d → Outcome a message' depth' → Passes × ((f : List ℕ) × Near m r k points w f)
    done_decode d e (refused y v p q h) = absurd (refused_done a d y e p)
    done_decode d e (found f v n p q h) = (v, (f, n))
    done_decode d e (none v n p q h) = absurd (refused_done a d TooFar e p)

-- what the buffers held shows nowhere but in themselves
module _ (m r k : ℕ) (points w : List ℕ) {message depth message₂ depth₂ : List ℕ} where
  any_buffers : length message ≡ length message₂ → length depth ≡ length depth₂ → {a : Answer} {s t : List ℕ}
      → Decoded m r k points w message depth a s t
      → (s₂ : List ℕ) × (t₂ : List ℕ) × Decoded m r k points w message₂ depth₂ a s₂ t₂ × (line_of a s₂ t₂ ≡ line_of a s t)
  unfolding line_of
  any_buffers p q (refused x v e _ _) = (message₂, depth₂, refused x (rw (p, q) at v) e refl refl, rw e)
  any_buffers p q (found f v near e e₁ e₂) = (f, depths r (length points) (row_of m r points f) w, found f (rw (p, q) at v) near e refl refl, rw (e₁, e₂))
  any_buffers p q (none v far e _ _) = (message₂, depth₂, none (rw (p, q) at v) far e refl refl, rw e)

  -- so the line of a row is one
  pub decode_same_line : length message ≡ length message₂ → length depth ≡ length depth₂ → {a b : Answer} {s t u x : List ℕ}
      → Decoded m r k points w message depth a s t → Decoded m r k points w message₂ depth₂ b u x → line_of a s t ≡ line_of b u x
  decode_same_line p q {a} {b} {s} {t} {u} {x} d d' =
      let y = any_buffers p q d in
      let e = decode_same m r k points w message₂ depth₂ a b y.0 y.1 u x y.2 d' in
      sym y.3 ∙ cc (e.0, e.1, e.2)

-- encode's row, damaged, is decoded
module _ (m r k : ℕ) (points f buffer : List ℕ) (d : ℕ) (row : List ℕ) (sent : Encoded m r k points f buffer (Ok d) row)
    (w message depth : List ℕ) (long : length w ≡ r * length points) (symbols : Symbols m w)
    (room : length message ≡ k) (room' : length depth ≡ length points)
    (a : Answer) (message' depth' : List ℕ) (received : Decoded m r k points w message depth a message' depth') where
  -- to the message, the depths of the damage and their sum
  abbrev Repaired : Type 0
  Repaired =
      (a ≡ Ok (distance r (length points) row w)) × (message' ≡ f) × (depth' ≡ depths r (length points) row w)

  inputs : Inside m r k points × Message m k f × (length buffer ≡ r * length points)
  inputs = done_encode m r k points f buffer (Ok d) row sent d refl

  row_is : row ≡ row_of m r points f
  row_is = (encode_done m r k points f buffer (Ok d) row sent inputs.0 inputs.1 inputs.2).1

  near_repaired : Near m r k points w f → Repaired
  near_repaired near =
      rw row_is
      (decode_done m r k points w message depth a message' depth'
      (decode_fine m r k points w (length message) (length depth) inputs.0 long room room' symbols) f near received)

  -- any damage within the radius
  pub damage_repaired : distance r (length points) row w ≤ reach r k points → Repaired
  damage_repaired near = near_repaired (record { message = inputs.1; within = rw row_is at near })

  -- any damage confined to floor((n' - ceil(k / r)) / 2) chunks
  pub chunks_repaired : damaged_chunks r (length points) row w ≤ (length points - (k + r - 1) / r) / 2 → Repaired
  chunks_repaired few = near_repaired (chunks_near m r k points inputs.0 w f inputs.1 (rw row_is at few))
