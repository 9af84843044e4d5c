use Rattle.std.proofs.Common.{◌≡◌, ◌+◌, ◌*◌, ◌≤◌, map, drop}
use Rattle.model.specs.Bays.{total}
use Rattle.model.specs.Bounds.{blockers}
use Rattle.bay.specs.Stacks.{stack_shown}
use Rattle.bounds.proofs.blocking.BlockingCountLowerBound.estimate.Given as goal

-- what is counted, and what is left to count
abbrev pub invariant-loop-stack : goal.invariant-loop-stack
invariant-loop-stack l =
    (total (blockers 65536) (map stack_shown l.stack-items) ≡ l.count + total (blockers 65536) (map stack_shown (drop l.stack-index l.stack-items)))
    × (l.count ≤ 8 * l.stack-index)
