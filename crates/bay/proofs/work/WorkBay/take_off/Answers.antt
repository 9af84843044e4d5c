use Rattle.std.proofs.Common.{arith}
use Rattle.bay.proofs.Bays.{cut_is, cut_sound}
use Rattle.bay.proofs.work.WorkBay.take_off.Goals as goal

pub invariant_of-self : goal.invariant_of-self
invariant_of-self c =
    let w = c.args.self.now in
    let at = c.in-Some.ensures in
    let so = cut_sound w c.take_from.new.stacks c.args.s c.in-Some.row at.0 at.1 c.args.crates c.take_from.ensures in
    record { few = w.few; whole = omega arith; once = so.once; apart = so.apart; ranged = so.ranged }

pub returns-in-Some : goal.returns-in-Some
returns-in-Some c =
    let at = c.in-Some.ensures in
    cut_is c.args.self.now c.take_from.new.stacks c.args.s c.in-Some.row at.0 at.1 c.args.crates c.take_from.ensures
