-- What the loops that write a slip, and symbols that are read, leave at the front of a buffer.
use Rattle.std.proofs.Common.{ℕ, ◌+◌, ◌*◌, ◌≤◌, ◌≡◌, ◌∙◌, List, ◌++◌, length, take, drop, length-take-le}
use lib.Seq.{take_at}
use Rattle.defs.specs.Slip.{all_bits, number_at, head_bits, slip_size, slip_bits, slip_of, layout_in, width_in, symbols_in}
use Rattle.defs.specs.declared.Layout.{Layout}
use Rattle.defs.specs.Write.{front}
use Rattle.theory.specs.Fill.{filled}
use Rattle.theory.proofs.Place.{length_tab}
use Rattle.theory.proofs.Fill.{filled_all}

pub take_front : (new old : List ℕ) (n : ℕ) → length new ≡ n → take n (front new old) ≡ new
unfolding front
take_front new old n e = take_at new (drop (length new) old) n e

pub length_symbols : (bytes : List ℕ) (past n : ℕ) → length (symbols_in bytes past n) ≡ n
unfolding symbols_in
length_symbols bytes past n = length_tab _ n

-- the first places of one filled with a slip, and its rest
pub slip_filled : (L : Layout) (m r k : ℕ) (points w d new : List ℕ) (size i : ℕ) → size ≡ slip_size L m (length points + length w) → size ≤ length d
    → i ≡ length (take size d) → new ≡ filled (take size d) 0 (λ i. number_at 8 (8 * i) (slip_bits L m r k points w)) i
    → new ++ drop size d ≡ front (slip_of L m r k points w) d
unfolding slip_of front
slip_filled L m r k points w d new size i e l q f =
    let F : ℕ → ℕ = λ i. number_at 8 (8 * i) (slip_bits L m r k points w) in
    let end : i ≡ size = q ∙ length-take-le size d l in
    rw (f, filled_all (take size d) F i q, ← q, end, length_tab F, ← e)

-- one filled with symbols
pub symbols_filled : (bytes : List ℕ) (start m past i : ℕ) (d : List ℕ) → start ≡ head_bits (layout_in bytes) → m ≡ width_in bytes → i ≡ length d
    → filled d 0 (λ j. number_at m (start + m * (past + j)) (all_bits 8 bytes)) i ≡ symbols_in bytes past (length d)
unfolding symbols_in
symbols_filled bytes start m past i d s w e = filled_all d _ i e ∙ rw (s, w)

-- symbols in the first places of one, and its rest
pub symbols_front : (bytes : List ℕ) (past n : ℕ) (d new : List ℕ) → n ≤ length d → new ≡ symbols_in bytes past (length (take n d)) → new ++ drop n d ≡ front (symbols_in bytes past n) d
unfolding front
symbols_front bytes past n d new l e = rw (length_symbols bytes past n, e, length-take-le n d l)
