-- The crates of one stack: the earliest of them, and what stands above it.
use Rattle.std.proofs.Common.{◌≡◌, ℕ, suc, ◌-◌, ◌<◌, ◌≤◌, min, List, [], ◌∷◌, ◌++◌, length, refl, ap, arith}
use Rattle.std.proofs.lemmas.Bool.Decides.{nat_tests}
use Rattle.std.proofs.lemmas.List.{length_push, get_or_push, take_at}
use Rattle.model.specs.Bays.{Stack, Slot, top_slot, without_top, no_slot}
use Rattle.model.specs.Targets.{lateness, lowest, above_of}

abbrev pub slots_of : Stack → List Slot
slots_of s = s.items

pub lowest_snoc : (xs : List Slot) (y : Slot) → lowest (xs ++ y ∷ []) ≡ min (lateness y.call) (lowest xs)
lowest_snoc [] y = refl
lowest_snoc (x ∷ xs) y = omega (arith, lowest_snoc xs y)

pub lowest_le : (xs : List Slot) → lowest xs ≤ 65536
lowest_le [] = omega arith
lowest_le (x ∷ xs) = omega (arith, lowest_le xs)

pub above_le : (k : ℕ) (x : Slot) (xs : List Slot) → above_of k (x ∷ xs) ≤ length xs
above_le k x [] = grind (arith, nat_tests)
above_le k x (z ∷ zs) = let ih : above_of k (z ∷ zs) ≤ length zs = above_le k z zs in grind (arith, nat_tests)

pub above_snoc : (k : ℕ) (xs : List Slot) (y : Slot) → k < 65536 → k < lateness y.call → lowest xs ≡ k
    → above_of k (xs ++ y ∷ []) ≡ suc (above_of k xs)
above_snoc k [] y lt ly e = absurd (omega arith)
above_snoc k (x ∷ xs) y lt ly e = grind (arith, nat_tests, lowest_snoc xs y, length_push xs y, above_snoc k xs y lt ly)

pub above_top : (k : ℕ) (xs : List Slot) (y : Slot) → lateness y.call ≡ k → k ≤ lowest xs → above_of k (xs ++ y ∷ []) ≡ 0
above_top k [] y ly e = grind (arith, nat_tests)
above_top k (x ∷ xs) y ly e = grind (arith, nat_tests, lowest_snoc xs y, above_top k xs y ly (omega arith))

-- a list that is not empty, seen from its end
pub record Topped (xs : List Slot) : Type 0 where
  pub under : List Slot
  pub top : Slot
  pub is : xs ≡ under ++ top ∷ []

pub topped : (x : Slot) (xs : List Slot) → Topped (x ∷ xs)
topped x [] = record { under = []; top = x; is = refl }
topped x (z ∷ zs) =
    let t = topped z zs in
    record { under = x ∷ t.under; top = t.top; is = ap (λ l. x ∷ l) t.is }

pub without_top_snoc : {X : Type 0} (ys : List X) (y : X) → without_top (ys ++ y ∷ []) ≡ ys
without_top_snoc ys y = take_at ys (y ∷ []) (length (ys ++ y ∷ []) - 1) (omega (arith, length_push ys y))

pub top_slot_snoc : (ys : List Slot) (y : Slot) → top_slot (ys ++ y ∷ []) ≡ y
top_slot_snoc ys y = get_or_push ys y no_slot (length (ys ++ y ∷ []) - 1) (omega (arith, length_push ys y))
