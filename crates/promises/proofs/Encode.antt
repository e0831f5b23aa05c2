-- Encode and distance: one outcome for every input, done exactly inside the limits, and a refusal changes nothing.
use Prim.Native.Nat.{ℕ, ◌*◌}
use mathlib.Core.Path.{◌≡◌, sym, ◌∙◌}
use mathlib.Core.List.{List}
use lib.ListN.{length}
use Rattle.defs.specs.Row.{Message, row_of}
use Rattle.defs.specs.Refusal.{answer, kept, Answer}
use Rattle.defs.specs.Limits.{Inside}
use Rattle.defs.specs.Encode.{Encoded, distance_answer}
use Rattle.defs.specs.declared.Refusal.{Refusal}
use Rattle.theory.proofs.Checks.{encode_known, encode_fine}
use Rattle.theory.proofs.Verdict.{answer_done, kept_refused}
use Rattle.std.proofs.Common.{Err, Ok}

module _ (m r k : ℕ) (points f row : List ℕ) where
  pub encode_same : (a b : Answer) (s t : List ℕ) → Encoded m r k points f row a s → Encoded m r k points f row b t → (a ≡ b) × (s ≡ t)
  encode_same a b s t x y = (x.answers ∙ sym y.answers, x.leaves ∙ sym y.leaves)

  module _ (a : Answer) (row' : List ℕ) (x : Encoded m r k points f row a row') where
    pub encode_refused : (y : Refusal) → a ≡ Err y → row' ≡ row
    encode_refused y e = x.leaves ∙ kept_refused _ 0 y _ row (sym x.answers ∙ e)

    pub encode_done : Inside m r k points → Message m k f → length row ≡ r * length points → (a ≡ Ok 0) × (row' ≡ row_of m r points f)
    unfolding answer kept
    encode_done i f_is e =
        let v = encode_fine m r k points f (length row) i f_is e in
        (x.answers ∙ rw v, x.leaves ∙ rw v)

    pub done_encode : (d : ℕ) → a ≡ Ok d → Inside m r k points × Message m k f × (length row ≡ r * length points)
    done_encode d e = encode_known m r k points f (length row) (answer_done _ 0 d (sym x.answers ∙ e))

pub distance_same : (r : ℕ) (u w : List ℕ) (a b : Answer) → a ≡ distance_answer r u w → b ≡ distance_answer r u w → a ≡ b
distance_same r u w a b x y = x ∙ sym y
