use Rattle.std.proofs.Common.{arith}
use Rattle.bay.proofs.Bays.{there, stack_is}
use Rattle.bay.proofs.work.WorkBay.stack.Goals as goal

pub returns : goal.returns
returns c =
    let at = c.in_ok-row.ensures in
    (there c.args.self.now c.args.s (λ z. omega (arith, at.1)) (omega (arith, at.0, at.1)), stack_is c.args.self.now c.args.s c.in_ok-row.row c.index-self-row.result at.0 at.1)
