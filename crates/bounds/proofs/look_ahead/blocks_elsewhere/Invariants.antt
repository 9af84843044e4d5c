use Rattle.std.proofs.Common.{◌≡◌, ◌+◌, ◌≤◌, map, length}
use Rattle.bay.specs.Shown.{shown}
use Rattle.bay.specs.Slots.{slot_shown}
use Rattle.bay.specs.Stacks.{stack_shown}
use Rattle.model.specs.Bounds.{elsewhere}
use Rattle.model.specs.Targets.{lateness}
use Rattle.bounds.proofs.look_ahead.blocks_elsewhere.Given as goal

-- the stacks so far all do
abbrev pub invariant-loop-number : goal.invariant-loop-number
invariant-loop-number l =
    (goal.iterator-loop-number).can_next l.number-iterator
    × (goal.iterator-loop-number).is_finite l.number-iterator
    × (l.number-iterator.a.start + length l.number-iterator.b.rest.now ≤ 13)
    × (elsewhere (lateness (slot_shown l.slot).call) l.s 1 (shown l.bay)
    ≡ elsewhere (lateness (slot_shown l.slot).call) l.s l.number-iterator.a.start (map stack_shown l.number-iterator.b.rest.now))
