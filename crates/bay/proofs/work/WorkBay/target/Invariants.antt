use Rattle.std.proofs.Common.{◌≡◌, suc, map, drop}
use Rattle.model.specs.Targets.{scan_bay, nobody}
use Rattle.bay.specs.Stacks.{stack_shown}
use Rattle.bay.specs.Target.{best_shown}
use Rattle.bay.proofs.work.WorkBay.target.Given as goal

-- what is left of the bay brings the scan to the same end
abbrev pub invariant-loop-row : goal.invariant-loop-row
invariant-loop-row l = scan_bay nobody 1 (map stack_shown l.stack-items) ≡ scan_bay (best_shown l.best) (suc l.row) (map stack_shown (drop l.row l.stack-items))
