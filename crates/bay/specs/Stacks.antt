-- What the stacks of a working bay mean.
use Rattle.std.specs.Prelude.{◌≡◌, ℕ, ◌<◌, ◌≤◌, List, map, take}
use Rattle.model.specs.Bays as model
use Rattle.model.specs.Bays.{Bay, CrateId, tally, is_crate, is_call, out_of_range}
use Rattle.bay.specs.declared.stack.Stack.{Stack}
use Rattle.bay.specs.Slots.{slot_shown}

abbrev pub stack_shown : Stack → model.Stack
stack_shown s = record { clearance = s.clearance; items = map slot_shown (take s.height s.slots) }

-- the bay of the first so many
unfoldable pub bay_of : ℕ → List Stack → Bay
bay_of count stacks = take count (map stack_shown stacks)

-- no crate number, and no call number, stands twice; all are in range
abbrev pub CratesOnce : Bay → Type 0
CratesOnce b = (c : CrateId) → tally (is_crate c) b ≤ 1

abbrev pub CallsApart : Bay → Type 0
CallsApart b = (k : ℕ) → 0 < k → tally (is_call k) b ≤ 1

abbrev pub InRange : Bay → Type 0
InRange b = tally out_of_range b ≡ 0
