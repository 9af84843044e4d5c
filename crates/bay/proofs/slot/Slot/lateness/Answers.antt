use Rattle.std.proofs.Common.{arith}
use Rattle.std.proofs.lemmas.Bool.Decides.{nat_tests}
use Rattle.model.specs.Targets.{lateness}
use Rattle.bay.proofs.slot.Slot.lateness.Goals as goal

pub returns-then-self-eq0 : goal.returns-then-self-eq0
unfolding lateness
returns-then-self-eq0 c = let e = c.if-self-eq0.true in grind (arith, nat_tests)

pub returns-else-self-eq0 : goal.returns-else-self-eq0
unfolding lateness
returns-else-self-eq0 c = let e = c.if-self-eq0.false in grind (arith, nat_tests)
