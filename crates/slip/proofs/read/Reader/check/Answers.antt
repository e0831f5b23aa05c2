-- `slip::read::Reader::check` meets its contract: each way out by its lemma.
use Rattle.std.proofs.Common.{◌≡◌, ◌+◌, ◌≤◌, sym, ◌∙◌, arith}
use Rattle.defs.specs.Refusal.{fine}
use Rattle.defs.specs.Slip.{spare_in, fill_in}
use Rattle.defs.specs.Read.{head_verdict}
use Rattle.slip.proofs.Reader.{found_at, none_below, row_is, nothing_behind, head_large, read_head, read_loose, read_twice, read_points, read_row, read_fine}
use Rattle.slip.proofs.read.Reader.check.Goals as goal
use Rattle.slip.proofs.read.Reader.check.Goals.{Else-self, Else-loose-gt0, then-count-self-via-then-count-self, then-count-self-via-else-count-self+then-n-row_len}

-- where nothing stands behind the slip
alone : (c : Else-self) → head_verdict c.args.self.now.bytes.now ≡ fine
alone c = nothing_behind c.args.self.now (omega (arith, c.args.self.now.sized, c.if-self.false))

-- where nothing is loose
clean : (c : Else-loose-gt0) → spare_in c.args.self.now.bytes.now + fill_in c.args.self.now.bytes.now ≤ 0
clean c = omega (arith, c.loose_bits-loose.ensures, c.if-loose-gt0.false)

pub returns-then-self : goal.returns-then-self
returns-then-self c = let s = c.args.self.now in
    read_head _ _ _ _ (sym (head_large s.bytes.now s.begins (omega (arith, s.sized, c.if-self.true))))

pub returns-then-loose-gt0 : goal.returns-then-loose-gt0
returns-then-loose-gt0 c =
    read_loose _ _ _ (alone (goal.at.returns-then-loose-gt0 c).Else-self) (omega (arith, c.loose_bits-loose.ensures, c.if-loose-gt0.true))

pub returns-in-Some : goal.returns-in-Some
returns-in-Some c =
    let f = found_at _ _ c.in-Some.twice (sym c.in-Some.is ∙ c.twice.ensures) in
    rw f.0 (read_twice _ _ _ (alone (goal.at.returns-in-Some c).Else-self) (clean (goal.at.returns-in-Some c).Else-loose-gt0) f.1)

pub returns-then-count-self : goal.returns-then-count-self
returns-then-count-self c =
    let e = alone (goal.at.returns-then-count-self c).Else-self in
    let l = clean (goal.at.returns-then-count-self c).Else-loose-gt0 in
    let o = none_below _ _ (sym c.in_default.is ∙ c.twice.ensures) in
    let h = c.args.self.now.heads in
    elim c.then-count-self.branch [
      | then-count-self-via-then-count-self w ↦ read_points _ _ _ e l o (omega (arith, h.count_is, w.if-count-self.true))
      | then-count-self-via-else-count-self+then-n-row_len w ↦ read_row _ _ _ e l o (omega (arith, h.count_is, w.if-count-self.false)) (omega (arith, w.row_len.ensures, row_is c.args.self.now, w.if-n-row_len.true))
    ]

pub returns : goal.returns
returns c =
    let h = c.args.self.now.heads in
    read_fine _ _ _ (alone (goal.at.returns c).Else-self) (clean (goal.at.returns c).Else-loose-gt0) (none_below _ _ (sym c.in_default.is ∙ c.twice.ensures))
    (omega (arith, h.count_is, c.if-count-self.false)) (omega (arith, c.row_len.ensures, row_is c.args.self.now, c.if-n-row_len.false))
