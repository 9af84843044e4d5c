use Rattle.std.proofs.Common.{map, ap, arith}
use Rattle.std.proofs.lemmas.List.{at_drop_all}
use Rattle.model.specs.Bays.{total}
use Rattle.model.specs.Bounds.{blockers, blocking}
use Rattle.bay.specs.Stacks.{stack_shown}
use Rattle.bounds.proofs.blocking.BlockingCountLowerBound.estimate.Goals as goal

pub returns : goal.returns
unfolding blocking
returns c =
    let none = at_drop_all (λ xs. total (blockers 65536) (map stack_shown xs)) c.stacks-stack-items.result.now c.loop-stack.stack-index c.loop-stack-test.false in
    let is = ap (total (blockers 65536)) c.stacks-stack-items.ensures.value in
    omega (arith, c.loop-stack.invariant.0)
