-- The crates that a handling hands out.
use Rattle.std.specs.Prelude.{◌≡◌, ℕ, ◌<◌, ◌&&◌, List, [], ◌∷◌, ◌==◌}
use Rattle.model.specs.Bays.{Bay, Slot, same_crate, stack_at, top_slot, tally, tally_in, one}
use Rattle.model.specs.Targets.{target}
use Rattle.model.specs.Moves.{Move, retrieve, relocate, moved, stack_of}

-- in the order of their leaving, with their calls
abbrev pub leaving : Bay → List Move → List Slot
leaving b [] = []
leaving b (retrieve ∷ ms) = top_slot (stack_at b (stack_of (target b))).items ∷ leaving (moved b retrieve) ms
leaving b (relocate d ∷ ms) = leaving (moved b (relocate d)) ms

-- call numbers that rise, all above k
abbrev pub Rising : ℕ → List Slot → Type 0
Rising k [] = Unit {0}
Rising k (x ∷ xs) = (k < x.call) × Rising x.call xs

-- the crate x with its call number
abbrev pub is_slot : Slot → Slot → ℕ
is_slot x y = one (same_crate y.crate x.crate && y.call == x.call)

-- the handling brings out every called crate of the bay, lowest call number first
pub record BringsOut (b : Bay) (ms : List Move) : Type 0 where
  pub rising : Rising 0 (leaving b ms)
  pub every : (x : Slot) → 0 < x.call → tally_in (is_slot x) (leaving b ms) ≡ tally (is_slot x) b
