-- A turn puts what it took from the input behind what was put before.
use Rattle.std.proofs.Common.{rules, ◌≡◌, ℕ, ◌+◌, ◌≤◌, List, ◌++◌, length, take, ap, subst, sym, ◌∙◌, length-take-le}
use Rattle.std.specs.Io.KnownBytes.{Consumes}
use Rattle.std.proofs.KnownBytes.{Consumes-trans}
use Rattle.std.proofs.Math.Seq.{take-append-add}
use Rattle.std.proofs.lemmas.List.{take-append-le}
use borrow.Rule.Slice.PartMut.{put_mid, post_of}
use Rattle.printing.proofs.read_full.Goals as goal

take_more-put_mid : (a k n : ℕ) (xs ys : List ℕ) → a ≤ length xs → n ≤ length ys → take (a + n) (put_mid a k xs ys) ≡ take a xs ++ take n ys
take_more-put_mid a k n xs ys within fits =
    let after = post_of a k xs in
    (rw (length-take-le a xs within) at (take-append-add (take a xs) (ys ++ after) n))
    ∙ ap (λ l. take a xs ++ l) (take-append-le n ys after fits)

pub loop-done-preserved : goal.loop-done-preserved
loop-done-preserved g c =
    let before = c.loop-done.invariant in
    let read = c.in_ok-n.ensures in
    (search rules, subst (Consumes _ _) (sym (take_more-put_mid _ _ _ _ _ before.0 read.bound.0)) (Consumes-trans _ _ _ _ _ before.1 read.bytes.0))
