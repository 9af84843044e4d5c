use Rattle.std.proofs.Common.{◌≡◌, take}
use Rattle.search.specs.Told.{framed}
use Rattle.search.proofs.workspace.Workspace.keep_plan.Given as goal

abbrev pub invariant-loop-frame : goal.invariant-loop-frame
invariant-loop-frame l = l.plan ≡ framed (take l.frame-index l.frame-items)
