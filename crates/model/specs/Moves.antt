-- Legal moves, legal handlings, settling.
use Rattle.std.specs.Prelude.{◌≡◌, ℕ, zero, suc, cond, not, ◌&&◌, ◌⊎◌, List, [], ◌∷◌, length, Some, None, Option, ◌==◌}
use Rattle.model.specs.Bays.{Bay, has_space, taken_from, relocated, crates}
use Rattle.model.specs.Targets.{target}

-- the target is handed out, or the top crate of its stack is carried to another stack
pub data Move : Type 0 where
  retrieve : Move
  relocate : ℕ → Move

-- the stacks other than s that have space, from number i on
abbrev pub open_from : ℕ → ℕ → Bay → List ℕ
open_from s i [] = []
open_from s i (x ∷ b) = cond (not (s == i) && has_space x) (i ∷ open_from s (suc i) b) (open_from s (suc i) b)

-- where a crate of the stack s may go, in the order in which the places are tried
unfoldable pub destinations : Bay → ℕ → List ℕ
destinations b s = open_from s 1 b

abbrev pub Mem : ℕ → List ℕ → Type 0
Mem d [] = ⊥
Mem d (x ∷ xs) = (d ≡ x) ⊎ Mem d xs

-- a move is legal at a target of the stack s with a crates above: on top it is handed out, else the top crate goes elsewhere
abbrev pub LegalOn : Bay → ℕ → ℕ → Move → Type 0
LegalOn b s zero retrieve = Unit {0}
LegalOn b s zero (relocate d) = ⊥
LegalOn b s (suc a) retrieve = ⊥
LegalOn b s (suc a) (relocate d) = Mem d (destinations b s)

abbrev pub LegalAt : Bay → Option (ℕ × ℕ) → Move → Type 0
LegalAt b None m = ⊥
LegalAt b (Some t) m = LegalOn b t.0 t.1 m

abbrev pub Legal : Bay → Move → Type 0
Legal b m = LegalAt b (target b) m

abbrev pub stack_of : Option (ℕ × ℕ) → ℕ
stack_of None = 0
stack_of (Some t) = t.0

-- the bay after a move
abbrev pub moved : Bay → Move → Bay
moved b retrieve = taken_from b (stack_of (target b))
moved b (relocate d) = relocated b (stack_of (target b)) d

-- a legal handling: legal moves, after which no called crate remains
abbrev pub Handles : Bay → List Move → Type 0
Handles b [] = target b ≡ None
Handles b (m ∷ ms) = Legal b m × Handles (moved b m) ms

-- the destinations of the relocations, and their number
abbrev pub dests : List Move → List ℕ
dests [] = []
dests (retrieve ∷ ms) = dests ms
dests (relocate d ∷ ms) = d ∷ dests ms

abbrev pub relocations : List Move → ℕ
relocations ms = length (dests ms)

-- settling hands out targets while the target is on top; no bay has more targets than crates
abbrev pub settle_on : (Bay → Bay) → Bay → ℕ → ℕ → Bay
settle_on more b s zero = more (taken_from b s)
settle_on more b s (suc a) = b

abbrev pub settle_at : (Bay → Bay) → Bay → Option (ℕ × ℕ) → Bay
settle_at more b None = b
settle_at more b (Some t) = settle_on more b t.0 t.1

abbrev pub settle_for : ℕ → Bay → Bay
settle_for zero b = b
settle_for (suc n) b = settle_at (settle_for n) b (target b)

unfoldable pub settle : Bay → Bay
settle b = settle_for (crates b) b
