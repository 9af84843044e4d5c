use Rattle.std.proofs.Common.{◌≡◌, ◌+◌, ◌≤◌, map, drop}
use Rattle.model.specs.Bounds.{blockers}
use Rattle.bay.specs.Slots.{slot_shown}
use Rattle.bounds.proofs.blocking.blockers.Given as goal

-- what is counted, and what is left to count
abbrev pub invariant-loop-slot : goal.invariant-loop-slot
invariant-loop-slot l =
    (blockers 65536 (map slot_shown l.slot-items) ≡ l.count + blockers l.earliest (map slot_shown (drop l.slot-index l.slot-items)))
    × (l.count ≤ l.slot-index)
