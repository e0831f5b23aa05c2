-- What a done call says it wrote is within the buffer.
use Prim.Native.Nat.{ℕ, ◌≤◌}
use mathlib.Core.Path.{◌≡◌, ap, sym, ◌∙◌}
use mathlib.Core.List.{List}
use native.Mathlib.Omega.{arith}
use lib.ListN.{length, drop, length-append}
use Rattle.defs.specs.Refusal.{answer, kept, Answer, fine}
use Rattle.defs.specs.Write.{front}
use Rattle.defs.specs.Text.{text_verdict}
use Rattle.defs.specs.Line.{Lined}
use Rattle.theory.proofs.Verdict.{answer_done}
use Rattle.std.proofs.Common.{Ok}

pub done_within : (bytes buffer : List ℕ) (a : Answer) (d : ℕ) (b : List ℕ) → Lined bytes buffer a b → a ≡ Ok d → d ≤ length b
unfolding answer kept front
done_within bytes buffer a d b u e =
    let v = text_verdict u.text (length buffer) in
    let is_fine : v ≡ fine = answer_done v _ d (sym u.answers ∙ e) in
    let size : d ≡ length u.text = cc (rw is_fine at u.answers) in
    let is : b ≡ front u.text buffer = rw is_fine at u.leaves in
    omega (arith, ap length is, length-append u.text (drop (length u.text) buffer))
