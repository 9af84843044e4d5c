-- The search: iterative deepening over relocations, with a budget of tries.
use Rattle.std.specs.Prelude.{◌≡◌, ℕ, zero, suc, ◌+◌, Bool, true, false, ◌⊎◌, List, [], ◌∷◌, length, Some, None, Option, ◌==◌, nat_lt}
use Rattle.model.specs.Bays.{Bay, relocated}
use Rattle.model.specs.Targets.{target}
use Rattle.model.specs.Moves.{Mem, stack_of, destinations, settle}

-- the relocations open in a settled bay, in the order of trying, or none if no called crate is left
abbrev pub ways_at : Bay → Option (ℕ × ℕ) → Option (List ℕ)
ways_at b None = None
ways_at b (Some t) = Some (destinations b t.0)

unfoldable pub ways : Bay → Option (List ℕ)
ways b = ways_at b (target b)

-- the settled bay after a relocation
unfoldable pub next : Bay → ℕ → Bay
next b d = settle (relocated b (stack_of (target b)) d)

abbrev pub Among : ℕ → Option (List ℕ) → Type 0
Among d None = ⊥
Among d (Some os) = Mem d os

-- from the settled bay b the destinations lead to a bay without called crates
abbrev pub Follows : Bay → List ℕ → Type 0
Follows b [] = ways b ≡ None
Follows b (d ∷ ds) = Among d (ways b) × Follows (next b d) ds

-- d stands before e in a list
abbrev pub Precedes : ℕ → ℕ → List ℕ → Type 0
Precedes d e [] = ⊥
Precedes d e (x ∷ xs) = ((d ≡ x) × Mem e xs) ⊎ Precedes d e xs

abbrev pub PrecedesIn : ℕ → ℕ → Option (List ℕ) → Type 0
PrecedesIn d e None = ⊥
PrecedesIn d e (Some os) = Precedes d e os

-- in the settled bay b the destination d is tried before e
abbrev pub Sooner : Bay → ℕ → ℕ → Type 0
Sooner b d e = PrecedesIn d e (ways b)

-- from the settled bay b, the first list has the sooner destination at the first place where the two differ
abbrev pub Earlier : Bay → List ℕ → List ℕ → Type 0
Earlier b [] es = ⊥
Earlier b (d ∷ ds) [] = ⊥
Earlier b (d ∷ ds) (e ∷ es) = Sooner b d e ⊎ ((d ≡ e) × Earlier (next b d) ds es)

-- how a round ends, with the tries made so far: with a plan; with the budget used up; with nothing, and whether a branch was cut
pub data Round : Type 0 where
  found : List ℕ → ℕ → Round
  spent : ℕ → Round
  over : Bool → ℕ → Round

-- what a search comes to
pub data Outcome : Type 0 where
  fewest : ℕ → List ℕ → Outcome
  at_least : ℕ → Outcome
  no_way : Outcome

-- after the branch of d: a plan or a used-up budget ends the round, else the next destinations follow
abbrev pub onward : ℕ → (Bool → ℕ → Round) → Round → Round
onward d rest (found ds n) = found (d ∷ ds) n
onward d rest (spent n) = spent n
onward d rest (over c n) = rest c n

-- the budget is looked at before each try
abbrev pub unless_spent : Bool → (ℕ → Round) → ℕ → Round
unless_spent true try n = spent n
unless_spent false try n = try (suc n)

-- the limit is looked at after each try
abbrev pub unless_cut : Bool → (Bool → ℕ → Round) → Bool → ℕ → Round
unless_cut true deeper cut n = over true n
unless_cut false deeper cut n = deeper cut n

module _ (h : Bay → ℕ) (budget limit : ℕ) where
  -- a try that led to the settled bay b with g relocations made
  abbrev pub tried : (ℕ → Bay → Bool → ℕ → Round) → ℕ → Bay → Bool → ℕ → Round
  tried deeper g b cut n = unless_cut (nat_lt limit (g + h b)) (deeper g b) cut n

  -- the destinations that are left in b, with g relocations made
  abbrev pub across : (ℕ → Bay → Bool → ℕ → Round) → ℕ → Bay → List ℕ → Bool → ℕ → Round
  across deeper g b [] cut n = over cut n
  across deeper g b (d ∷ os) cut n =
      unless_spent (n == budget) (λ m. onward d (across deeper g b os) (tried deeper (suc g) (next b d) cut m)) n

  abbrev pub from_ways : (ℕ → Bay → Bool → ℕ → Round) → ℕ → Bay → Option (List ℕ) → Bool → ℕ → Round
  from_ways deeper g b None cut n = found [] n
  from_ways deeper g b (Some os) cut n = across deeper g b os cut n

  -- from the settled bay b with g relocations made; the first number bounds the depth, and never decides if over the limit
  abbrev pub deep : ℕ → ℕ → Bay → Bool → ℕ → Round
  deep zero g b cut n = over true n
  deep (suc l) g b cut n = from_ways (deep l) g b (ways b) cut n

abbrev pub next_round : ℕ → (ℕ → Outcome × ℕ) → Round → Outcome × ℕ
next_round limit more (found ds n) = (fewest (length ds) ds, n)
next_round limit more (spent n) = (at_least limit, n)
next_round limit more (over true n) = more n
next_round limit more (over false n) = (no_way, n)

module _ (h : Bay → ℕ) (budget : ℕ) where
  -- rounds from a limit on, each with x more depth than its limit asks; the second number bounds the rounds
  abbrev pub rounds : ℕ → ℕ → ℕ → Bay → ℕ → Outcome × ℕ
  rounds x zero limit b n = (no_way, n)
  rounds x (suc more) limit b n = next_round limit (rounds x more (suc limit) b) (deep h budget limit (suc (limit + x)) 0 b false n)

  -- the search with so many rounds and so much spare depth
  unfoldable pub searched_within : ℕ → ℕ → Bay → Outcome × ℕ
  searched_within r x b = rounds x r (h (settle b)) (settle b) 0

  -- the outcome of the search, and its tries; neither more rounds nor more depth would change it
  unfoldable pub searched : Bay → Outcome × ℕ
  searched b = searched_within 1345 0 b
