use Rattle.std.proofs.Common.{◌≡◌, ◌-◌, []}
use Rattle.search.specs.Told.{plan_in}
use Rattle.search.specs.declared.workspace.TheConstants.{DEEPEST}
use Rattle.search.proofs.Limits.{Rising}
use Rattle.search.proofs.deepening.search.Given as goal

abbrev pub invariant-loop-space : goal.invariant-loop-space
invariant-loop-space g l =
    record { rising : Rising (g.B.LowerBound.value l.bound) l.budget l.bay l.start l.limit l.tries; empty : plan_in l.space ≡ [] }

abbrev pub decreases-loop-space : goal.decreases-loop-space
decreases-loop-space g l = DEEPEST - l.limit
