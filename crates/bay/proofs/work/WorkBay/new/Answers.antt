use Rattle.std.proofs.Common.{refl, arith}
use Rattle.bay.specs.Stacks.{bay_of}
use Rattle.bay.proofs.work.WorkBay.new.Goals as goal

pub invariant_of-result : goal.invariant_of-result
unfolding bay_of
invariant_of-result c = record { few = omega arith; whole = refl; once = λ d. omega arith; apart = λ k p. omega arith; ranged = refl }

pub returns : goal.returns
unfolding bay_of
returns c = refl
