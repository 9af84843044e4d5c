use Rattle.std.proofs.Common.{◌≡◌, ◌+◌, ◌*◌, ◌≤◌}
use Rattle.bay.specs.Shown.{shown}
use Rattle.model.specs.Bays.{crates}
use Rattle.model.specs.Bounds.{look_ahead}
use Rattle.bounds.proofs.look_ahead.LookAheadLowerBound.estimate.Given as goal

-- what is counted, and what the copy still has
abbrev pub invariant-loop-s : goal.invariant-loop-s
invariant-loop-s l = (look_ahead (shown l.bay) ≡ l.count + look_ahead (shown l.copy)) × (l.count + 2 * crates (shown l.copy) ≤ 192)

abbrev pub decreases-loop-s : goal.decreases-loop-s
decreases-loop-s l = crates (shown l.copy)
