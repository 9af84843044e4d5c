-- Carrying out a list of destinations: the legal moves that it leads to, one after the other.
use Rattle.std.specs.Prelude.{◌≡◌, ℕ, List, [], ◌∷◌, ◌++◌}
use Rattle.model.specs.Bays.{Bay, CrateId, stack_at, top_slot}
use Rattle.model.specs.Targets.{target}
use Rattle.model.specs.Moves.{Move, retrieve, relocate, Legal, moved, Handles, dests, stack_of, settle}
use Rattle.model.specs.Search.{Follows}

-- a move with its particulars: the crate, and the stack that it leaves or the two stacks that it goes between
pub data Step : Type 0 where
  handed_out : CrateId → ℕ → Step
  carried : CrateId → ℕ → ℕ → Step

-- the crate on top of the target's stack
abbrev pub top_crate : Bay → CrateId
top_crate b = (top_slot (stack_at b (stack_of (target b))).items).crate

abbrev pub step_of : Bay → Move → Step
step_of b retrieve = handed_out (top_crate b) (stack_of (target b))
step_of b (relocate d) = carried (top_crate b) (stack_of (target b)) d

-- moves made one after the other: their particulars, whether all are legal, and the bay after them
abbrev pub steps_of : Bay → List Move → List Step
steps_of b [] = []
steps_of b (m ∷ ms) = step_of b m ∷ steps_of (moved b m) ms

abbrev pub LegalRun : Bay → List Move → Type 0
LegalRun b [] = Unit {0}
LegalRun b (m ∷ ms) = Legal b m × LegalRun (moved b m) ms

abbrev pub after_all : Bay → List Move → Bay
after_all b [] = b
after_all b (m ∷ ms) = after_all (moved b m) ms

-- no crate can be handed out, and the next destination, if there is one, is not legal
abbrev pub Stuck : Bay → List ℕ → Type 0
Stuck b [] = Legal b retrieve → ⊥
Stuck b (d ∷ ds) = (Legal b retrieve → ⊥) × (Legal b (relocate d) → ⊥)

-- The steps are legal moves from b that take the destinations in order and go on as long as they can.
-- If the destinations lead to the end, the moves are a legal handling that takes them all.
pub record CarriedOut (b : Bay) (ds : List ℕ) (steps : List Step) : Type 0 where
  pub moves : List Move
  pub rest : List ℕ
  pub shown : steps ≡ steps_of b moves
  pub legal : LegalRun b moves
  pub along : dests moves ++ rest ≡ ds
  pub stuck : Stuck (after_all b moves) rest
  pub handles : Follows (settle b) ds → Handles b moves × (dests moves ≡ ds)
