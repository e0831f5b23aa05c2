-- What the reader leaves, and the line of it.
use Prim.Native.Nat.{ℕ}
use mathlib.Core.Path.{◌≡◌, refl, sym, ◌∙◌}
use mathlib.Core.List.{List, []}
use native.Mathlib.Omega.{arith}
use lib.ListN.{length}
use Rattle.std.proofs.Common.{Result, Ok, Err}
use Rattle.defs.specs.Limits.{longest}
use Rattle.defs.specs.Refusal.{fine}
use Rattle.defs.specs.Read.{read_verdict, Read}
use Rattle.defs.specs.Line.{line_of, Line, refused, read}
use Rattle.defs.specs.declared.Refusal.{Refusal}
use Rattle.defs.specs.declared.SlipRead.{SlipRead}
use Rattle.slip.proofs.Answered.{told, read_no, read_fine, read_numbers, points_inside, row_inside, points_fit, row_fits}
use Rattle.slip.proofs.Taken.{read_sound}
use Rattle.theory.proofs.Limits.{count_small}
use Rattle.line.specs.Text.{Taken, SlipLine}

-- two buffers of the longest row, and what the reader left in them
module _ (bytes points row points' row' : List ℕ) (a : Result SlipRead Refusal) (points_room : length points ≡ longest) (row_room : length row ≡ longest)
    (took : Read bytes points row a points' row') where
  took_is : read_verdict bytes (length points) (length row) ≡ read_verdict bytes longest longest
  took_is = rw (points_room, row_room)

  pub refused_line : (x : Refusal) → a ≡ Err x → Line bytes (line_of (Err x) [] [])
  refused_line x e = refused x (sym took_is ∙ read_no took x e) refl

  module _ (s : SlipRead) (done : a ≡ Ok s) where
    is_fine : read_verdict bytes longest longest ≡ fine
    is_fine = sym took_is ∙ read_fine took s done

    s_is : s ≡ told bytes
    s_is = read_numbers took s done

    pub taken : Taken s points' row'
    taken =
        let sound = read_sound bytes longest longest is_fine in
        rw s_is record {
          k_top = omega (arith, sound.numbers.k_top, sound.numbers.row_top);
          count_top = count_small sound.numbers;
          points_inside = points_fit took s done;
          row_inside = row_fits took s done;
        }

    pub taken_line : (text : List ℕ) → SlipLine s points' row' text → Line bytes text
    taken_line text line = read is_fine (rw (s_is, points_inside took s done, row_inside took s done) at line)
