use Rattle.std.proofs.Common.{◌-◌, length, ap, ◌∙◌, arith}
use Rattle.model.specs.Bays.{Stack, top_slot}
use Rattle.bay.specs.Shown.{shown}
use Rattle.bay.proofs.Bays.{placed, stack_is}
use Rattle.bay.proofs.Carrying.{is_standing}
use Rattle.bay.proofs.work.WorkBay.top.Goals as goal

pub listed : goal.listed
listed c =
    let w = c.args.self.now in
    let p = placed w c.args.s c.from.result c.from.ensures (is_standing (shown w) c.args.s c.requires) in
    omega (arith, p.0, w.few, w.whole)

pub bounds-self-from : goal.bounds-self-from
bounds-self-from c =
    let w = c.args.self.now in
    let p = placed w c.args.s c.from.result c.from.ensures (is_standing (shown w) c.args.s c.requires) in
    omega (arith, p.0, w.few)

pub top-requires : goal.top-requires
top-requires c =
    let w = c.args.self.now in
    let p = placed w c.args.s c.from.result c.from.ensures (is_standing (shown w) c.args.s c.requires) in
    omega (arith, ap (λ (t : Stack). length t.items) (stack_is w c.args.s (c.from.result - 1) c.index-self-from.result p.0 p.1), c.requires)

pub returns : goal.returns
returns c =
    let w = c.args.self.now in
    let p = placed w c.args.s c.from.result c.from.ensures (is_standing (shown w) c.args.s c.requires) in
    c.top.ensures ∙ ap (λ (t : Stack). top_slot t.items) (stack_is w c.args.s (c.from.result - 1) c.index-self-from.result p.0 p.1)
