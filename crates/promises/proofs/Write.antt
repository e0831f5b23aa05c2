-- The writer is done for a known edition, a code inside its limits, a row of it and room for the slip, and for nothing else.
use Prim.Native.Nat.{ℕ, ◌+◌, ◌*◌, ◌≤◌}
use mathlib.Core.Bool.{true}
use mathlib.Core.Path.{◌≡◌, sym, ◌∙◌}
use mathlib.Core.List.{List}
use lib.ListN.{length}
use Rattle.defs.specs.Place.{Symbols}
use Rattle.defs.specs.Refusal.{answer, kept, Answer}
use Rattle.defs.specs.Limits.{Within}
use Rattle.defs.specs.Slip.{is_edition, layout_of, slip_size, slip_of}
use Rattle.defs.specs.Write.{front, Written}
use Rattle.theory.proofs.Verdict.{answer_done}
use Rattle.slip.proofs.Writer.{writable, writable_fine}
use Rattle.std.proofs.Common.{Ok}

module _ (edition m r k : ℕ) (points w bytes : List ℕ) (a : Answer) (bytes' : List ℕ) (x : Written edition m r k points w bytes a bytes') where
  abbrev size : ℕ
  size = slip_size (layout_of edition) m (length points + length w)

  pub write_done : is_edition edition ≡ true → Within (layout_of edition).top m r k points → length w ≡ r * length points → Symbols m w → size ≤ length bytes
      → (a ≡ Ok size) × (bytes' ≡ front (slip_of (layout_of edition) m r k points w) bytes)
  unfolding answer kept
  write_done known i l s room =
      let v = writable_fine edition m r k points w (length bytes) (record { known = known; within = i; row = l; room = room; symbols = s }) in
      (x.answers ∙ rw v, x.leaves ∙ rw v)

  pub done_write : (d : ℕ) → a ≡ Ok d
      → (is_edition edition ≡ true) × Within (layout_of edition).top m r k points × (length w ≡ r * length points) × Symbols m w × (size ≤ length bytes)
  done_write d e =
      let y = writable edition m r k points w (length bytes) (answer_done _ _ d (sym x.answers ∙ e)) in
      (y.known, y.within, y.row, y.symbols, y.room)
