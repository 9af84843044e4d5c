-- What is promised of a bound and of an outcome, in terms of legal handlings.
use Rattle.std.specs.Prelude.{◌≡◌, ℕ, ◌+◌, ◌≤◌, List, [], None}
use Rattle.model.specs.Bays.{Bay, Sound}
use Rattle.model.specs.Targets.{target}
use Rattle.model.specs.Moves.{Move, Handles, dests, relocations, settle}
use Rattle.model.specs.Leaving.{BringsOut}
use Rattle.model.specs.Search.{Earlier, Outcome, fewest, at_least, no_way, searched, searched_within}

-- every legal handling of a sound bay has at least that many relocations, and the number is at most 672
pub record Honest (h : Bay → ℕ) : Type 0 where
  pub small : (b : Bay) → Sound b → h b ≤ 672
  pub honest : (b : Bay) → Sound b → (ms : List Move) → Handles b ms → h b ≤ relocations ms

-- Following the destinations ds is a legal handling with n relocations, which brings out every called crate, lowest call
-- number first. No legal handling has fewer, and of those with n none comes first.
pub record Fewest (b : Bay) (n : ℕ) (ds : List ℕ) : Type 0 where
  pub moves : List Move
  pub handles : Handles b moves
  pub brings_out : BringsOut b moves
  pub along : dests moves ≡ ds
  pub many : relocations moves ≡ n
  pub least : (ms : List Move) → Handles b ms → n ≤ relocations ms
  pub first : (ms : List Move) → Handles b ms → relocations ms ≡ n → Earlier (settle b) (dests ms) ds → ⊥

-- what an outcome says of the legal handlings of a bay
abbrev pub Says : Bay → Outcome → Type 0
Says b (fewest n ds) = Fewest b n ds
Says b (at_least n) = (ms : List Move) → Handles b ms → n ≤ relocations ms
Says b no_way = (ms : List Move) → Handles b ms → ⊥

-- "at least" is answered only with the budget used up
abbrev pub UsedUp : ℕ → Outcome → ℕ → Type 0
UsedUp budget (fewest n ds) tries = Unit {0}
UsedUp budget (at_least n) tries = tries ≡ budget
UsedUp budget no_way tries = Unit {0}

-- another search of the same bay, under another honest bound and budget, that also answers fewest finds the same plan
abbrev pub Agrees : Bay → Outcome → Type 0
Agrees b (fewest n ds) =
    (h : Bay → ℕ) → Honest h → (budget tries m : ℕ) (es : List ℕ) → searched h budget b ≡ (fewest m es, tries) → (m ≡ n) × (es ≡ ds)
Agrees b (at_least n) = Unit {0}
Agrees b no_way = Unit {0}

-- the rule's own limits never decide: more rounds and more depth give the same outcome after the same tries
abbrev pub Unlimited : (Bay → ℕ) → ℕ → Bay → Type 0
Unlimited h budget b = (r x : ℕ) → searched_within h budget (1345 + r) x b ≡ searched h budget b

-- what is promised of an outcome and its tries
pub record Promised (h : Bay → ℕ) (budget : ℕ) (b : Bay) (outcome : Outcome) (tries : ℕ) : Type 0 where
  pub says : Says b outcome
  pub at_once : target (settle b) ≡ None → (outcome ≡ fewest 0 []) × (tries ≡ 0)
  pub within : tries ≤ budget
  pub used_up : UsedUp budget outcome tries
  pub agrees : Agrees b outcome
  pub unlimited : Unlimited h budget b
  pub short : (ms : List Move) → Handles b ms → relocations ms ≤ 672
