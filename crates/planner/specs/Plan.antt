-- What the planner asks of the search, and what a told move does to a bay.
use Rattle.std.specs.Prelude.{◌≡◌, ℕ, List, map}
use Rattle.model.specs.Bays.{Bay}
use Rattle.model.specs.Bounds.{null, blocking, look_ahead}
use Rattle.model.specs.Moves as model
use Rattle.search.specs.declared.moves.Move.{Move}
use Rattle.search.specs.declared.moves.Move.TheVariants.{Relocate, Retrieve}
use Rattle.text.specs.declared.request.BoundChoice.{BoundChoice}
use Rattle.text.specs.declared.request.BoundChoice.TheVariants.{Null, Blocking, LookAhead}

-- the bound that a request names, as a number for each bay
abbrev pub bound_of : BoundChoice → Bay → ℕ
bound_of Null = null
bound_of Blocking = blocking
bound_of LookAhead = look_ahead

-- the move that is told
abbrev pub move_of : Move → model.Move
move_of (Relocate c from to) = model.relocate to
move_of (Retrieve c s) = model.retrieve

abbrev pub moves_of : List Move → List model.Move
moves_of ms = map move_of ms

-- a legal move is made, and another changes nothing: b before, b' after
pub record Makes (m : model.Move) (b b' : Bay) : Type 0 where
  pub legal : model.Legal b m → b' ≡ model.moved b m
  pub illegal : (model.Legal b m → ⊥) → b' ≡ b
