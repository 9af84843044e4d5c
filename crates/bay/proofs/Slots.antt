-- The crates of one stack, one after the other.
use Rattle.std.proofs.Common.{◌≡◌, ℕ, zero, suc, ◌+◌, ◌-◌, ◌<◌, ◌≤◌, min, Bool, true, false, ltb, ◌||◌, ◌≢◌, ◌⊎◌, List, [], ◌∷◌, map, length, get_or, take, drop, sym, refl, ap, ◌∙◌, inl, inr, arith}
use Rattle.std.specs.List.{list_any}
use Rattle.std.proofs.lemmas.Bool.{le-ltb}
use Rattle.std.proofs.lemmas.Bool.Decides.{nat_tests}
use Rattle.std.proofs.lemmas.List.{get_or-map, get_or-take, get_or_past, length-map, length-take-le, take-take, take-map, at_drop_more, at_drop_all}
use Rattle.model.specs.Bays as model
use Rattle.model.specs.Bays.{Stack, no_slot, one}
use Rattle.model.specs.Targets.{lateness, lowest}
use Rattle.bay.specs.declared.slot.Slot.{Slot}
use Rattle.bay.specs.Ask.{slot_on}
use Rattle.bay.specs.Slots.{slot_shown}

-- the earliest of a list whose place i was met
pub lowest_more : (xs : List Slot) (i low : ℕ) (x : Slot) → i < length xs → x ≡ get_or xs i x → lowest (map slot_shown xs) ≡ min low (lowest (map slot_shown (drop i xs)))
    → lowest (map slot_shown xs) ≡ min (min (lateness (slot_shown x).call) low) (lowest (map slot_shown (drop (i + 1) xs)))
lowest_more xs i low x l q e =
    let m = at_drop_more (λ ys. lowest (map slot_shown ys)) xs i x l in
    let here = ap (λ y. lateness (slot_shown y).call) q in
    omega arith

pub lowest_all : (xs : List Slot) (i low : ℕ) → length xs ≤ i → low ≤ 65536 → lowest (map slot_shown xs) ≡ min low (lowest (map slot_shown (drop i xs))) → low ≡ lowest (map slot_shown xs)
lowest_all xs i low l c e = let m = at_drop_all (λ ys. lowest (map slot_shown ys)) xs i l in omega arith

-- some crate is earlier than one of this lateness if the earliest is
pub any_earlier : (late : ℕ) → late ≤ 65536 → (xs : List Slot) → list_any (λ x. ltb (lateness (slot_shown x).call) late) xs ≡ ltb (lowest (map slot_shown xs)) late
any_earlier late l [] = sym (le-ltb 65536 late l)
any_earlier late l (x ∷ xs) = earlier (lateness (slot_shown x).call) (lowest (map slot_shown xs)) late _ (any_earlier late l xs)
  where
    earlier : (a b n : ℕ) (t : Bool) → t ≡ ltb b n → (ltb a n || t) ≡ ltb (min a b) n
    earlier a b n t e = grind (arith, nat_tests)

pub lateness_cap : (k : ℕ) → k ≤ 65535 → lateness k ≤ 65536
unfolding lateness
lateness_cap k l = grind (arith, nat_tests)

-- a test and the number that it counts
pub one_test : (t : Bool) (n : ℕ) → one t ≡ n → t ≡ ltb 0 n
one_test true n e = grind (arith, nat_tests)
one_test false n e = grind (arith, nat_tests)

either : (n m : ℕ) (t : Bool) → t ≡ ltb 0 m → (ltb 0 n || t) ≡ ltb 0 (n + m)
either n m t e = grind (arith, nat_tests)

-- something counts if the sum of all counts does
pub any_counts : {X : Type 0} (f : X → ℕ) (sum : List X → ℕ) → sum [] ≡ 0 → ((x : X) (xs : List X) → sum (x ∷ xs) ≡ f x + sum xs)
    → (xs : List X) → list_any (λ x. ltb 0 (f x)) xs ≡ ltb 0 (sum xs)
any_counts f sum none more [] = ap (ltb 0) (sym none)
any_counts f sum none more (x ∷ xs) = either (f x) (sum xs) _ (any_counts f sum none more xs) ∙ ap (ltb 0) (sym (more x xs))

-- the crate at a tier
pub slot_is : (h t : ℕ) (d : Slot) (xs : List Slot) → h ≤ length xs → t ≢ 0 → t ≤ h → slot_shown (get_or xs (t - 1) d) ≡ slot_on (map slot_shown (take h xs)) t
slot_is h zero d xs long ne l = absurd (ne refl)
slot_is h (suc t) d xs long ne l =
    ap (λ i. slot_shown (get_or xs i d)) (omega arith)
    ∙ ap slot_shown (sym (get_or-take h xs t d (omega arith)))
    ∙ sym (get_or-map slot_shown (take h xs) t d no_slot (omega (arith, length-take-le h xs long)))

-- at a tier that is not there stands nothing
pub no_slot_lem : (items : List model.Slot) (t : ℕ) → (t ≡ 0) ⊎ (length items < t) → slot_on items t ≡ no_slot
no_slot_lem items zero o = refl
no_slot_lem items (suc t) (inl e) = absurd (omega arith)
no_slot_lem items (suc t) (inr l) = get_or_past items t no_slot (omega arith)

-- crates taken off the top
pub fewer : (c h h' n : ℕ) (xs : List Slot) → h ≤ length xs → h' ≡ h - n
    → ◌≡◌ {A = Stack} (record { clearance = c; items = map slot_shown (take h' xs) }) (record { clearance = c; items = take (length (map slot_shown (take h xs)) - n) (map slot_shown (take h xs)) })
fewer c h h' n xs l e =
    let long : length (map slot_shown (take h xs)) ≡ h = length-map (take h xs) slot_shown ∙ length-take-le h xs l in
    let high : h' ≡ length (map slot_shown (take h xs)) - n = omega arith in
    ap (λ ys. record { clearance = c; items = map slot_shown ys }) (sym (take-take h' h xs (omega arith)))
    ∙ ap (λ m. record { clearance = c; items = map slot_shown (take m (take h xs)) }) high
    ∙ ap (λ ys. record { clearance = c; items = ys }) (sym (take-map slot_shown (length (map slot_shown (take h xs)) - n) (take h xs)))
