-- What the slip writer answers, and what it leaves in the bytes, for every input.
use Rattle.std.specs.Prelude.{ℕ, ◌+◌, ◌*◌, ◌≡◌, not, List, ◌++◌, eqb, ltb, length, drop}
use Rattle.defs.specs.Refusal.{refuse, and_then, answer, kept, Answer, Verdict}
use Rattle.defs.specs.Limits.{code_verdict}
use Rattle.defs.specs.Encode.{symbols_verdict}
use Rattle.defs.specs.Slip.{is_edition, layout_of, slip_size, slip_of}
use Rattle.defs.specs.declared.Refusal.TheVariants.{Length, Edition}

-- new written to the front of a buffer, whose rest keeps its bytes
unfoldable pub front : List ℕ → List ℕ → List ℕ
front new old = new ++ drop (length new) old

-- 11 on the edition; 1 to 6 with its longest row, 7 for the row and then for the bytes, 8; size is the length of the byte buffer
unfoldable pub write_verdict : ℕ → ℕ → ℕ → ℕ → List ℕ → List ℕ → ℕ → Verdict
write_verdict edition m r k points w size =
    refuse (not (is_edition edition)) Edition
    (and_then (code_verdict (layout_of edition).top m r k points)
    (refuse (not (eqb (length w) (r * length points))) Length
    (refuse (ltb size (slip_size (layout_of edition) m (length points + length w))) Length (symbols_verdict m w))))

pub record Written (edition m r k : ℕ) (points w bytes : List ℕ) (a : Answer) (bytes' : List ℕ) : Type 0 where
  pub answers : a ≡ answer (write_verdict edition m r k points w (length bytes)) (slip_size (layout_of edition) m (length points + length w))
  pub leaves : bytes' ≡ kept (write_verdict edition m r k points w (length bytes))
      (front (slip_of (layout_of edition) m r k points w) bytes) bytes
