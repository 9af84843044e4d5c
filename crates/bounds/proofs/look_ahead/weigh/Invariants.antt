use Rattle.std.proofs.Common.{◌≡◌, ◌+◌, ◌*◌, ◌≤◌, map, drop}
use Rattle.bay.specs.Shown.{shown}
use Rattle.bay.specs.Slots.{slot_shown}
use Rattle.model.specs.Bays.{tally_in}
use Rattle.model.specs.Bounds.{weight}
use Rattle.bounds.proofs.look_ahead.weigh.Given as goal

-- what is counted, and what is left to count
abbrev pub invariant-loop-slot : goal.invariant-loop-slot
invariant-loop-slot l =
    (tally_in (weight (shown l.bay) l.s) (map slot_shown l.slots) ≡ l.count + tally_in (weight (shown l.bay) l.s) (map slot_shown (drop l.slot-index l.slots)))
    × (l.count ≤ 2 * l.slot-index)
