-- A slip that was read, into buffers of any length, gives a code inside the limits, also those of its edition, and a row that decode takes.
use Prim.Native.Nat.{ℕ, ◌*◌}
use mathlib.Core.Path.{◌≡◌}
use mathlib.Core.List.{List}
use lib.ListN.{length, take}
use Rattle.defs.specs.Limits.{Within, Inside}
use Rattle.defs.specs.Decode.{decode_verdict}
use Rattle.defs.specs.Slip.{layout_of, layout_in}
use Rattle.defs.specs.Read.{read_verdict, reading, Read}
use Rattle.defs.specs.declared.Refusal.{Refusal}
use Rattle.defs.specs.declared.SlipRead.{SlipRead}
use Rattle.slip.proofs.Taken.{within, inside, decodable}
use Rattle.slip.proofs.Answered.{read_fine, read_numbers, points_inside, row_inside}
use Rattle.std.proofs.Common.{Ok, Result}
use Rattle.defs.specs.Refusal.{fine}

module _ (bytes points row points' row' : List ℕ) (a : Result SlipRead Refusal) (x : Read bytes points row a points' row') (s : SlipRead) (done : a ≡ Ok s) where
  abbrev is_fine : read_verdict bytes (length points) (length row) ≡ fine
  is_fine = read_fine x s done

  pub read_inside : Inside s.m s.r s.k (take s.count points')
  unfolding reading
  read_inside = rw (read_numbers x s done, points_inside x s done) (inside bytes _ _ is_fine)

  -- of at most 128 symbols in a row of edition 1, and 240 in one of edition 2
  pub read_within : Within (layout_of s.edition).top s.m s.r s.k (take s.count points')
  unfolding reading layout_in
  read_within = rw (read_numbers x s done, points_inside x s done) (within bytes _ _ is_fine)

  pub read_decodable : decode_verdict s.m s.r s.k (take s.count points') (take (s.r * s.count) row') s.k s.count ≡ fine
  unfolding reading
  read_decodable = rw (read_numbers x s done, points_inside x s done, row_inside x s done) (decodable bytes _ _ is_fine)
