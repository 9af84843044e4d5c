-- Lower bounds on the relocations that a bay needs.
use Rattle.std.specs.Prelude.{ℕ, zero, suc, ◌+◌, ◌-◌, min, Bool, true, ◌&&◌, ◌||◌, List, [], ◌∷◌, length, take, drop, Some, None, Option, ◌==◌, nat_lt}
use Rattle.model.specs.Bays.{Bay, Slot, stack_at, changed, crates, total, tally_in, one}
use Rattle.model.specs.Targets.{lateness, lowest, target}

abbrev pub null : Bay → ℕ
null b = 0

-- going up a stack, with the earliest lateness seen below
abbrev pub blockers : ℕ → List Slot → ℕ
blockers low [] = 0
blockers low (x ∷ xs) = one (nat_lt low (lateness x.call)) + blockers (min low (lateness x.call)) xs

-- the crates with an earlier-called crate anywhere below them in their stack
unfoldable pub blocking : Bay → ℕ
blocking b = total (blockers 65536) b

-- every stack of c other than s holds a crate called earlier than one of lateness l; the stacks are numbered from n
abbrev pub elsewhere : ℕ → ℕ → ℕ → Bay → Bool
elsewhere l s n [] = true
elsewhere l s n (x ∷ c) = (s == n || nat_lt (lowest x.items) l) && elsewhere l s (suc n) c

-- what the look-ahead counts for the crate x above the target of stack s: one, and one more if it can go nowhere without blocking
abbrev pub weight : Bay → ℕ → Slot → ℕ
weight c s x = 1 + one (elsewhere (lateness x.call) s 1 c)

-- the target and all above it leave the copy c; what is above counts
abbrev pub ahead_at : (Bay → ℕ) → Bay → Option (ℕ × ℕ) → ℕ
ahead_at more c None = 0
ahead_at more c (Some t) =
    tally_in (weight c t.0) (drop (length (stack_at c t.0).items - t.1) (stack_at c t.0).items)
    + more (changed c t.0 (take (length (stack_at c t.0).items - suc t.1) (stack_at c t.0).items))

-- while a called crate remains in the copy; no copy has more targets than crates
abbrev pub ahead_for : ℕ → Bay → ℕ
ahead_for zero c = 0
ahead_for (suc n) c = ahead_at (ahead_for n) c (target c)

unfoldable pub look_ahead : Bay → ℕ
look_ahead b = ahead_for (crates b) b
