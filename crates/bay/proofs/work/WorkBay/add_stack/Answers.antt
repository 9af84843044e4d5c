use Rattle.std.proofs.Common.{◌∙◌, arith}
use Rattle.std.proofs.lemmas.List.{length-set}
use Rattle.bay.proofs.Building.{stack_many, stack_high, stack_fine, stack_more, stack_more_sound}
use Rattle.bay.proofs.work.WorkBay.add_stack.Goals as goal

pub returns-then-self-ge12-clause-says : goal.returns-then-self-ge12-clause-says
returns-then-self-ge12-clause-says c = stack_many c.args.self.now c.args.clearance c.if-self-ge12.true

pub returns-then-clearance-gt8-clause-says : goal.returns-then-clearance-gt8-clause-says
returns-then-clearance-gt8-clause-says c = stack_high c.args.self.now c.args.clearance c.if-self-ge12.false c.if-clearance-gt8.true

pub invariant_of-self : goal.invariant_of-self
invariant_of-self c =
    let so = stack_more_sound c.args.self.now c.args.clearance c.from.result c.empty.result c.if-self-ge12.false c.if-clearance-gt8.false c.from.ensures c.empty.ensures in
    record { few = omega arith; whole = length-set c.args.self.now.stacks c.from.result c.empty.result ∙ c.args.self.now.whole; once = so.once; apart = so.apart; ranged = so.ranged }

pub returns-clause-says : goal.returns-clause-says
returns-clause-says c = stack_fine c.args.self.now c.args.clearance c.if-self-ge12.false c.if-clearance-gt8.false

pub returns-clause-after : goal.returns-clause-after
returns-clause-after c = stack_more c.args.self.now c.args.clearance c.from.result c.empty.result c.if-self-ge12.false c.from.ensures c.empty.ensures
