-- What it means that a call's checks find nothing, as plain facts.
use Prim.Native.Nat.{ℕ, ◌*◌}
use mathlib.Core.Path.{◌≡◌}
use mathlib.Core.Bool.{not}
use mathlib.Core.List.{List}
use native.Mathlib.Omega.{arith}
use lib.Dec.{eqb}
use lib.ListN.{length}
use borrow.Author.Tests.{eqb-true, eq-eqb, not-false, ltb-false, le-ltb}
use Rattle.defs.specs.Place.{Symbols, first_high}
use Rattle.defs.specs.Row.{Message}
use Rattle.defs.specs.Refusal.{refuse, and_then, Verdict, fine}
use Rattle.defs.specs.Limits.{Inside}
use Rattle.defs.specs.Encode.{symbols_verdict, encode_verdict}
use Rattle.defs.specs.Decode.{decode_verdict}
use Rattle.defs.specs.declared.Refusal.{Refusal}
use Rattle.theory.proofs.Place.{none_high}
use Rattle.theory.proofs.Limits.{all_low}
use Rattle.theory.proofs.Verdict.{refuse_fine, then_fine}

-- a length that is as it must be
same_length : (a b : ℕ) (x : Refusal) (v : Verdict) → refuse (not (eqb a b)) x v ≡ fine → (a ≡ b) × (v ≡ fine)
same_length a b x v e =
    let e' = refuse_fine (not (eqb a b)) x v e in
    (eqb-true a b (not-false _ e'.0), e'.1)

length_fine : (a b : ℕ) (x : Refusal) (v : Verdict) → a ≡ b → v ≡ fine → refuse (not (eqb a b)) x v ≡ fine
unfolding refuse
length_fine a b x v e f = rw (eq-eqb a b e) f

pub symbols_known : (m : ℕ) (s : List ℕ) → symbols_verdict m s ≡ fine → Symbols m s
unfolding symbols_verdict
symbols_known m s e = none_high m s (ltb-false _ _ (refuse_fine _ _ _ e).0)

pub symbols_fine : (m : ℕ) (s : List ℕ) → Symbols m s → symbols_verdict m s ≡ fine
unfolding symbols_verdict refuse
symbols_fine m s h = rw (le-ltb (first_high m s) (length s) (omega (arith, all_low m s h)))

module _ (m r k : ℕ) (points : List ℕ) where
  pub encode_known : (f : List ℕ) (size : ℕ) → encode_verdict m r k points f size ≡ fine
      → Inside m r k points × Message m k f × (size ≡ r * length points)
  unfolding encode_verdict
  encode_known f size e =
      let e₁ = then_fine _ _ e in
      let e₂ = same_length (length f) k _ _ e₁.1 in
      let e₃ = same_length size (r * length points) _ _ e₂.1 in
      (e₁.0, record { size = e₂.0; symbols = symbols_known m f e₃.1 }, e₃.0)

  pub encode_fine : (f : List ℕ) (size : ℕ) → Inside m r k points → Message m k f → size ≡ r * length points
      → encode_verdict m r k points f size ≡ fine
  unfolding encode_verdict and_then
  encode_fine f size i f_is e =
      rw i (length_fine _ _ _ _ f_is.size (length_fine _ _ _ _ e (symbols_fine m f f_is.symbols)))

  pub decode_known : (w : List ℕ) (size count : ℕ) → decode_verdict m r k points w size count ≡ fine
      → Inside m r k points × (length w ≡ r * length points) × (size ≡ k) × (count ≡ length points) × Symbols m w
  unfolding decode_verdict
  decode_known w size count e =
      let e₁ = then_fine _ _ e in
      let e₂ = same_length (length w) (r * length points) _ _ e₁.1 in
      let e₃ = same_length size k _ _ e₂.1 in
      let e₄ = same_length count (length points) _ _ e₃.1 in
      (e₁.0, e₂.0, e₃.0, e₄.0, symbols_known m w e₄.1)

  pub decode_fine : (w : List ℕ) (size count : ℕ) → Inside m r k points → length w ≡ r * length points → size ≡ k → count ≡ length points
      → Symbols m w → decode_verdict m r k points w size count ≡ fine
  unfolding decode_verdict and_then
  decode_fine w size count i e e' e'' s =
      rw i (length_fine _ _ _ _ e (length_fine _ _ _ _ e' (length_fine _ _ _ _ e'' (symbols_fine m w s))))
