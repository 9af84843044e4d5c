use Rattle.std.proofs.Common.{◌≡◌, ◌+◌, ◌-◌, ◌*◌, ◌≤◌, length}
use Rattle.bay.specs.Shown.{shown}
use Rattle.search.proofs.Standing.{Stands}
use Rattle.search.proofs.round.round.Given as goal

abbrev pub invariant-destination : goal.invariant-destination
invariant-destination g l =
    record {
      stands : Stands (g.B.LowerBound.value l.bound) l.budget l.limit l.start l.fn.tries l.frames l.at l.to l.cut l.tries;
      last : l.to-end ≡ length (shown l.at.bay) + 1;
      level : length l.frames ≡ length l.initial.frames;
      more : l.initial.tries ≤ l.tries;
    }

abbrev pub invariant-depth : goal.invariant-depth
invariant-depth g l = Stands (g.B.LowerBound.value l.bound) l.budget l.limit l.start l.fn.tries l.frames l.at l.at.destination l.cut l.tries

abbrev pub decreases-depth : goal.decreases-depth
decreases-depth g l = 2 * (l.budget - l.tries) + length l.frames
