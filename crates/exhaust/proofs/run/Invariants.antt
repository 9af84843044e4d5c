use Rattle.std.proofs.Common.{◌≤◌}
use Rattle.exhaust.proofs.run.Given as goal

abbrev pub invariant-loop : goal.invariant-loop
invariant-loop g l = (l.agreed ≤ l.counter) × (l.with_plan ≤ l.counter)
