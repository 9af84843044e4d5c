use Rattle.std.proofs.Common.{◌≡◌, drop}
use Rattle.bay.specs.Shown.{shown}
use Rattle.model.specs.Carrying.{LegalRun, after_all}
use Rattle.planner.specs.Plan.{moves_of}
use Rattle.planner.proofs.after.Given as goal

-- if all the moves are legal, so are those that are left, and they lead to the same bay
abbrev pub invariant-loop-made : goal.invariant-loop-made
invariant-loop-made l =
    let left = moves_of (drop l.made-index l.list) in
    LegalRun (shown l.bay) (moves_of l.list)
    → LegalRun (shown l.here) left × (after_all (shown l.here) left ≡ after_all (shown l.bay) (moves_of l.list))
