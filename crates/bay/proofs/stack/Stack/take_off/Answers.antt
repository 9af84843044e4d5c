use Rattle.std.proofs.Common.{arith}
use Rattle.bay.proofs.Slots.{fewer}
use Rattle.bay.proofs.stack.Stack.take_off.Goals as goal

pub returns : goal.returns
returns c = fewer c.args.self.now.clearance c.args.self.now.height c.saturating_sub-self.result c.args.crates c.args.self.now.slots (omega (arith, c.args.self.now.tall, c.args.self.now.whole)) c.saturating_sub-self.ensures
