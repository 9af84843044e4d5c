-- What the answers of a search mean.
use Rattle.std.specs.Prelude.{ℕ, true, false, List, [], map}
use Rattle.model.specs.Search as model
use Rattle.search.specs.declared.outcome.Kind.{Kind}
use Rattle.search.specs.declared.outcome.Kind.TheVariants.{Fewest, AtLeast, NoWay}
use Rattle.search.specs.declared.outcome.Outcome.{Outcome}
use Rattle.search.specs.declared.outcome.Ended.{Ended}
use Rattle.search.specs.declared.outcome.Ended.TheVariants.{Found, Spent, Cut, Over}
use Rattle.search.specs.declared.outcome.Round.{Round}
use Rattle.search.specs.declared.workspace.Frame.{Frame}
use Rattle.search.specs.declared.workspace.Workspace.{Workspace}

-- an outcome with the destinations found, by case
abbrev pub kind_told : Kind → List ℕ → model.Outcome
kind_told (Fewest n) ds = model.fewest n ds
kind_told (AtLeast n) ds = model.at_least n
kind_told NoWay ds = model.no_way

abbrev pub told : Outcome → List ℕ → model.Outcome × ℕ
told o ds = (kind_told o.kind ds, o.tries)

-- the destinations that a workspace holds after a search, and those that an outcome has
abbrev pub plan_in : Workspace → List ℕ
plan_in w = w.plan

abbrev pub plan_of : model.Outcome → List ℕ
plan_of (model.fewest n ds) = ds
plan_of (model.at_least n) = []
plan_of model.no_way = []

-- the end of a round, with the destinations of the frames
abbrev pub framed : List Frame → List ℕ
framed fs = map (λ (f : Frame). f.destination) fs

abbrev pub ended_told : Ended → List Frame → ℕ → model.Round
ended_told Found fs n = model.found (framed fs) n
ended_told Spent fs n = model.spent n
ended_told Cut fs n = model.over true n
ended_told Over fs n = model.over false n

abbrev pub end_told : Round → List Frame → model.Round
end_told r fs = ended_told r.ended fs r.tries
