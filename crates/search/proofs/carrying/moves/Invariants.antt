use Rattle.std.proofs.Common.{◌+◌, length, vec_items}
use Rattle.std.specs.Slice.Iter.{iter_rest}
use Rattle.bay.specs.Shown.{shown}
use Rattle.model.specs.Bays.{crates}
use Rattle.search.proofs.Carried.{Underway}
use Rattle.search.proofs.carrying.moves.Given as goal

abbrev pub invariant-loop-crate_number : goal.invariant-loop-crate_number
invariant-loop-crate_number l = Underway (shown l.bay) l.destinations (vec_items l.made) (iter_rest l.rest) (shown l.here)

abbrev pub decreases-loop-crate_number : goal.decreases-loop-crate_number
decreases-loop-crate_number l = crates (shown l.here) + length (iter_rest l.rest)
