use Rattle.std.proofs.Common.{◌≡◌, vec_len}
use Rattle.exhaust.proofs.every.Walk.+go_on.Given as goal

abbrev pub decreases-go_on : goal.decreases-go_on
decreases-go_on l = l.fuel

abbrev pub invariant-loop-to : goal.invariant-loop-to
invariant-loop-to l = vec_len l.self.bay.stacks ≡ vec_len l.initial.self.bay.stacks
