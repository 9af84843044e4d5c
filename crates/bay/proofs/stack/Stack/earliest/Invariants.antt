use Rattle.std.proofs.Common.{◌≡◌, ◌≤◌, min, map, drop}
use Rattle.model.specs.Targets.{lowest}
use Rattle.bay.specs.Slots.{slot_shown}
use Rattle.bay.proofs.stack.Stack.earliest.Given as goal

-- the earliest so far, and the earliest of what is left
abbrev pub invariant-loop-slot : goal.invariant-loop-slot
invariant-loop-slot l = (lowest (map slot_shown l.slot-items) ≡ min l.low (lowest (map slot_shown (drop l.slot-index l.slot-items)))) × (l.low ≤ 65536)
