use Rattle.std.proofs.Common.{◌≡◌}
use Rattle.model.specs.Bays.{crates}
use Rattle.model.specs.Moves.{settle}
use Rattle.bay.specs.Shown.{shown}
use Rattle.bay.proofs.work.WorkBay.settle.Given as goal

-- what is left to settle comes to the same bay
abbrev pub invariant-loop-source : goal.invariant-loop-source
invariant-loop-source l = settle (shown l.initial.self) ≡ settle (shown l.self)

abbrev pub decreases-loop-source : goal.decreases-loop-source
decreases-loop-source l = crates (shown l.self)
