-- The best candidate so far, as the code keeps it.
use Rattle.model.specs.Targets.{Candidate}
use Rattle.bay.specs.declared.candidate.Best.{Best}

abbrev pub best_shown : Best → Candidate
best_shown b = record { late = b.late; above = b.above; stack = b.stack }
