-- `slip::read::Reader::twice` meets its contract: the points are what is searched.
use Rattle.std.proofs.Common.{ℕ, ◌≡◌, length, take, replicate, length-take-le, sym}
use Rattle.defs.specs.Slip.{points_in, symbols_in}
use Rattle.slip.proofs.Reader.{count_few}
use Rattle.slip.proofs.Taken.{length_points}
use Rattle.slip.proofs.read.Reader.twice.Goals as goal
use Rattle.slip.proofs.read.Reader.twice.Goals.{Start}

-- the points have room
room : (c : Start) → length (take c.args.self.now.count (replicate {A = ℕ} 240 0)) ≡ c.args.self.now.count
room c = length-take-le c.args.self.now.count (replicate {A = ℕ} 240 0) (count_few c.args.self.now)

pub slice_bounds-buffer-end : goal.slice_bounds-buffer-end
slice_bounds-buffer-end c = count_few c.args.self.now

pub slice_bounds-points-end : goal.slice_bounds-points-end
slice_bounds-points-end c = sym (room (goal.at.slice_bounds-points-end c).Start)

pub returns : goal.returns
unfolding points_in
returns c =
    let s = c.args.self.now in
    let e : c.take.new.out ≡ symbols_in s.bytes.now 0 (length (take s.count (replicate {A = ℕ} 240 0))) = c.take.ensures in
    let p : c.take.new.out ≡ points_in s.bytes.now = rw (room (goal.at.returns c).Start, s.heads.count_is) at e in
    rw (c.first_twice.ensures, p, length_points s.bytes.now)
