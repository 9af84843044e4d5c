-- Small bays worked through: what the search comes to under each bound, and after how many tries.
use Rattle.std.specs.Prelude.{◌≡◌, ℕ, zero, suc, ◌+◌, List, [], ◌∷◌}
use Rattle.model.specs.Bays.{Bay, Slot}
use Rattle.model.specs.Bounds.{null, blocking, look_ahead}
use Rattle.model.specs.Carrying.{handed_out, carried, steps_of}
use Rattle.model.specs.Moves.{retrieve, relocate, Handles}
use Rattle.model.specs.Search.{Outcome, fewest, at_least, no_way, searched}

-- crates with these calls, bottom first, 0 for uncalled; a crate that is called k has the number 10 + k, the others count up from n
abbrev pub crated : ℕ → List ℕ → List Slot
crated n [] = []
crated n (zero ∷ ks) = (record { crate = n; call = 0 }) ∷ crated (suc n) ks
crated n (suc k ∷ ks) = (record { crate = 10 + suc k; call = suc k }) ∷ crated n ks

-- each stack by its clearance and its calls
abbrev pub bay_from : ℕ → List (ℕ × List ℕ) → Bay
bay_from n [] = []
bay_from n (s ∷ b) = (record { clearance = s.0; items = crated n s.1 }) ∷ bay_from (n + 10) b

abbrev pub bay_of : List (ℕ × List ℕ) → Bay
bay_of b = bay_from 100 b

abbrev pub no_stacks : Bay
no_stacks = []

abbrev pub in_order : Bay
in_order = bay_of ((2, 2 ∷ 1 ∷ []) ∷ [])

abbrev pub nowhere_to_go : Bay
nowhere_to_go = bay_of ((2, 1 ∷ 2 ∷ []) ∷ [])

abbrev pub one_blocker_one_free : Bay
one_blocker_one_free = bay_of ((2, 1 ∷ 2 ∷ []) ∷ (2, []) ∷ [])

abbrev pub blocker_moved_twice : Bay
blocker_moved_twice = bay_of ((3, 1 ∷ 3 ∷ []) ∷ (3, 2 ∷ []) ∷ [])

-- one blocker, and the free stack has no clearance
abbrev pub free_stack_shut : Bay
free_stack_shut = bay_of ((2, 1 ∷ 2 ∷ []) ∷ (0, []) ∷ [])

abbrev pub dead_end : Bay
dead_end = bay_of ((3, 1 ∷ 3 ∷ 2 ∷ []) ∷ (3, 5 ∷ 4 ∷ []) ∷ [])

abbrev pub uncalled_on_top : Bay
uncalled_on_top = bay_of ((2, 1 ∷ 0 ∷ []) ∷ (2, 0 ∷ []) ∷ [])

-- under the null bound, the blocking count and the look-ahead, with a budget that is not used up
abbrev pub three : Bay → List (Outcome × ℕ)
three b = searched null 1000000 b ∷ searched blocking 1000000 b ∷ searched look_ahead 1000000 b ∷ []

-- one outcome under all three, after so many tries
abbrev pub all : Outcome → ℕ → ℕ → ℕ → List (Outcome × ℕ)
all o i j k = (o, i) ∷ (o, j) ∷ (o, k) ∷ []

abbrev pub Worked : Type 0
Worked =
    (three no_stacks ≡ all (fewest 0 []) 0 0 0)
    × (three in_order ≡ all (fewest 0 []) 0 0 0)
    × (three nowhere_to_go ≡ all no_way 0 0 0)
    × (three one_blocker_one_free ≡ all (fewest 1 (2 ∷ [])) 2 1 1)
    × (three blocker_moved_twice ≡ all (fewest 2 (2 ∷ 1 ∷ [])) 5 3 2)
    × (searched blocking 3 blocker_moved_twice ≡ (fewest 2 (2 ∷ 1 ∷ []), 3))
    × (searched blocking 2 blocker_moved_twice ≡ (at_least 2, 2))
    × (searched blocking 0 blocker_moved_twice ≡ (at_least 1, 0))
    × (three free_stack_shut ≡ all no_way 0 0 0)
    × (three dead_end ≡ (no_way, 2) ∷ (no_way, 1) ∷ (no_way, 2) ∷ [])
    × (searched blocking 1000000 uncalled_on_top ≡ (fewest 1 (2 ∷ []), 1))
    × Handles blocker_moved_twice (relocate 2 ∷ retrieve ∷ relocate 1 ∷ retrieve ∷ retrieve ∷ [])
    × (steps_of blocker_moved_twice (relocate 2 ∷ retrieve ∷ relocate 1 ∷ retrieve ∷ retrieve ∷ [])
    ≡ carried 13 1 2 ∷ handed_out 11 1 ∷ carried 13 2 1 ∷ handed_out 12 2 ∷ handed_out 13 1 ∷ [])
