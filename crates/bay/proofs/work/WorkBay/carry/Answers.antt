use Rattle.std.proofs.Common.{◌<◌, sym, ap, ◌∙◌, subst, arith}
use Rattle.model.specs.Bays.{taken_from, put_on, relocated}
use Rattle.bay.specs.Ask.{height_at}
use Rattle.bay.specs.Build.{Newcomer}
use Rattle.bay.specs.Shown.{shown}
use Rattle.bay.specs.Slots.{slot_shown}
use Rattle.bay.proofs.Bays.{work_sound}
use Rattle.bay.proofs.Carrying.{opened, taken_newcomer, taken_low}
use Rattle.bay.proofs.work.WorkBay.carry.Goals as goal

pub put-requires-clause-low : goal.put-requires-clause-low
unfolding taken_from
put-requires-clause-low c =
    let w = c.args.self.now in
    subst (λ b. height_at b c.args.to < 8) (sym c.take_off.ensures)
    (taken_low (shown w) (work_sound w) c.args.from c.args.to (omega (arith, c.height.ensures, c.if-height-eq0.false)) (opened (shown w) c.args.from c.args.to c.if-not-is_open.ensures))

pub put-requires-clause-new : goal.put-requires-clause-new
unfolding taken_from
put-requires-clause-new c =
    let w = c.args.self.now in
    subst (λ b. Newcomer b (slot_shown c.top-slot.result)) (sym c.take_off.ensures)
    (subst (Newcomer (taken_from (shown w) c.args.from)) (sym c.top-slot.ensures) (taken_newcomer (shown w) (work_sound w) c.args.from c.args.to (omega (arith, c.height.ensures, c.if-height-eq0.false))))

pub returns-clause-after : goal.returns-clause-after
unfolding relocated taken_from
returns-clause-after c =
    c.put.ensures
    ∙ ap (λ b. put_on b c.args.to (slot_shown c.top-slot.result)) c.take_off.ensures
    ∙ ap (put_on (taken_from (shown c.args.self.now) c.args.from) c.args.to) c.top-slot.ensures
