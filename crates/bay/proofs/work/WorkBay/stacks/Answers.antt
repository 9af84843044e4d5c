use Rattle.std.proofs.Common.{map, take, sym, ap, ◌∙◌}
use Rattle.bay.specs.Stacks.{stack_shown}
use Rattle.bay.proofs.Bays.{bay_is}
use Rattle.bay.proofs.work.WorkBay.stacks.Goals as goal

pub returns-clause-value : goal.returns-clause-value
returns-clause-value c = ap (λ n. map stack_shown (take n c.args.self.now.stacks)) c.from.ensures ∙ sym (bay_is c.args.self.now.count c.args.self.now.stacks)
