-- What a bay answers: of a stack or a tier that is not there, 0.
use Rattle.std.specs.Prelude.{ℕ, zero, suc, Bool, not, ◌&&◌, List, length, ◌==◌, nat_lt, slice_index_or}
use Rattle.model.specs.Bays.{Bay, Slot, no_slot, stack_at, has_space}

abbrev pub height_at : Bay → ℕ → ℕ
height_at b s = length (stack_at b s).items

-- tiers are counted from 1 at the bottom
abbrev pub slot_on : List Slot → ℕ → Slot
slot_on items zero = no_slot
slot_on items (suc t) = slice_index_or items t no_slot

abbrev pub slot_in : Bay → ℕ → ℕ → Slot
slot_in b s tier = slot_on (stack_at b s).items tier

-- a crate of the stack s may go to d
abbrev pub opens : Bay → ℕ → ℕ → Bool
opens b s d = not (s == d) && has_space (stack_at b d)

-- the top crate of one stack may be carried to another
abbrev pub carries : Bay → ℕ → ℕ → Bool
carries b from to = nat_lt 0 (height_at b from) && opens b from to
