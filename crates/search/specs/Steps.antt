-- What a move of the code tells, by case.
use Rattle.std.specs.Prelude.{List, map}
use Rattle.model.specs.Carrying.{Step, handed_out, carried}
use Rattle.search.specs.declared.moves.Move.{Move}
use Rattle.search.specs.declared.moves.Move.TheVariants.{Relocate, Retrieve}

abbrev pub step_told : Move → Step
step_told (Relocate c f t) = carried c.number f t
step_told (Retrieve c s) = handed_out c.number s

abbrev pub steps_told : List Move → List Step
steps_told ms = map step_told ms
