use Rattle.std.proofs.Common.{arith}
use Rattle.model.specs.Bays.{taken_from}
use Rattle.bay.specs.Shown.{shown}
use Rattle.bay.specs.Slots.{slot_shown}
use Rattle.bay.proofs.Moving.{retrieved}
use Rattle.bay.proofs.work.WorkBay.retrieve.Goals as goal

pub returns : goal.returns
unfolding taken_from
returns c =
    retrieved (shown c.args.self.now) c.in_ok-s.s c.in_ok-s.above c.in_ok-s.ensures.value (shown c.take_off.new.self) (slot_shown c.top-slot.result)
    (omega (arith, c.if-above-gt0.false)) c.take_off.ensures c.top-slot.ensures
