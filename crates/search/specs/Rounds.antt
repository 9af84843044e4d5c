-- One round, as the code asks for it.
use Rattle.std.specs.Prelude.{◌≡◌, ℕ, suc, false, Some}
use Rattle.model.specs.Bays.{Bay}
use Rattle.model.specs.Targets.{target}
use Rattle.model.specs.Search.{Round, Outcome, deep, rounds}

-- the target of b is in the stack s
pub record Aims (b : Bay) (s : ℕ) : Type 0 where
  pub above : ℕ
  pub is : target b ≡ Some (s, above)

-- one round from the settled bay b
unfoldable pub round_from : (Bay → ℕ) → ℕ → ℕ → Bay → ℕ → Round
round_from h budget limit b n = deep h budget limit (suc limit) 0 b false n

-- the rounds from a limit on, of which so many may follow
unfoldable pub rounds_from : (Bay → ℕ) → ℕ → ℕ → ℕ → Bay → ℕ → Outcome × ℕ
rounds_from h budget fuel limit b n = rounds h budget 0 fuel limit b n
