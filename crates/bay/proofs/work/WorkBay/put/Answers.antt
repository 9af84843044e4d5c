use Rattle.std.proofs.Common.{◌-◌, length, ap, arith}
use Rattle.bay.specs.Slots.{slot_shown}
use Rattle.bay.proofs.Bays.{placed, row_items, laid, laid_sound}
use Rattle.bay.proofs.work.WorkBay.put.Goals as goal

pub put_on-requires-clause-inside : goal.put_on-requires-clause-inside
put_on-requires-clause-inside c =
    let w = c.args.self.now in
    let p = placed w c.args.s c.from.result c.from.ensures c.requires.there in
    omega (arith, p.0, w.few, w.whole)

pub put_on-requires-clause-low : goal.put_on-requires-clause-low
put_on-requires-clause-low c =
    let w = c.args.self.now in
    let p = placed w c.args.s c.from.result c.from.ensures c.requires.there in
    omega (arith, ap length (row_items w w.stacks c.args.s (c.from.result - 1) p.0 p.1), c.requires.low)

pub invariant_of-self : goal.invariant_of-self
invariant_of-self c =
    let w = c.args.self.now in
    let p = placed w c.args.s c.from.result c.from.ensures c.requires.there in
    let so = laid_sound w c.put_on.new.stacks c.args.s (c.from.result - 1) p.0 p.1 (slot_shown c.args.slot) c.put_on.ensures c.requires.low c.requires.new in
    record { few = w.few; whole = omega arith; once = so.once; apart = so.apart; ranged = so.ranged }

pub returns : goal.returns
returns c =
    let w = c.args.self.now in
    let p = placed w c.args.s c.from.result c.from.ensures c.requires.there in
    laid w c.put_on.new.stacks c.args.s (c.from.result - 1) p.0 p.1 (slot_shown c.args.slot) c.put_on.ensures
