use Rattle.std.proofs.Common.{map, ap, ◌∙◌, arith}
use Rattle.bay.specs.Slots.{slot_shown}
use Rattle.bay.proofs.Slots.{lowest_more, lowest_all}
use Rattle.model.specs.Targets.{lowest}
use Rattle.model.proofs.Stacks.{lowest_le}
use Rattle.bay.proofs.stack.Stack.earliest.Goals as goal

pub loop-slot-init : goal.loop-slot-init
loop-slot-init c = (omega (arith, lowest_le (map slot_shown c.slots-slot-items.result.now)), omega arith)

pub loop-slot-preserved : goal.loop-slot-preserved
loop-slot-preserved c =
    let more = lowest_more c.slots-slot-items.result.now c.loop-slot.slot-index c.loop-slot.low c.slot-item.result c.loop-slot-test.true c.slot-item.is c.loop-slot.invariant.0 in
    (omega (arith, more, c.lateness.ensures), omega (arith, c.loop-slot.invariant.1))

pub returns : goal.returns
returns c =
    lowest_all c.slots-slot-items.result.now c.loop-slot.slot-index c.loop-slot.low c.loop-slot-test.false c.loop-slot.invariant.1 c.loop-slot.invariant.0
    ∙ ap lowest c.slots-slot-items.ensures.value
