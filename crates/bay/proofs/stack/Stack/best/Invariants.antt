use Rattle.std.proofs.Common.{◌≡◌, ◌≤◌, map, length}
use Rattle.model.specs.Targets.{scan_stack}
use Rattle.bay.specs.Slots.{slot_shown}
use Rattle.bay.specs.Target.{best_shown}
use Rattle.bay.proofs.stack.Stack.best.Given as goal

-- what is left of the stack brings the scan to the same end
abbrev pub invariant-loop-rest : goal.invariant-loop-rest
invariant-loop-rest l =
    (scan_stack (best_shown l.initial.best) l.s (map slot_shown l.initial.rest) ≡ scan_stack (best_shown l.best) l.s (map slot_shown l.rest))
    × (length l.rest ≤ 8)

abbrev pub decreases-loop-rest : goal.decreases-loop-rest
decreases-loop-rest l = length l.rest
