-- The best of several candidates: going over crates one by one finds the best stack.
use Rattle.std.proofs.Common.{◌≡◌, ℕ, ◌<◌, ◌≤◌, ◌⊎◌, List, [], ◌∷◌, length, sym, refl, ap, ◌∙◌, arith}
use Rattle.std.proofs.lemmas.Bool.{cond_both}
use Rattle.std.proofs.lemmas.Bool.Decides.{nat_tests}
use Rattle.model.specs.Bays.{Slot}
use Rattle.model.specs.Targets.{lateness, lowest, above_of, Candidate, beats, better, nobody, scan_stack}
use Rattle.model.proofs.Stacks.{above_le}

-- q goes strictly before p
abbrev pub Before : Candidate → Candidate → Type 0
Before q p = (q.late < p.late) ⊎ ((q.late ≡ p.late) × (q.above < p.above))

-- q goes no later than p
abbrev pub NoLater : Candidate → Candidate → Type 0
NoLater q p = (q.late < p.late) ⊎ ((q.late ≡ p.late) × (q.above ≤ p.above))

pub weaker : (p q : Candidate) → Before p q → NoLater p q
weaker p q a = grind arith

pub takes : (p q : Candidate) → Before q p → better p q ≡ q
takes p q b = grind (arith, nat_tests)

pub stays : (p q : Candidate) → NoLater p q → better p q ≡ p
stays p q n = grind (arith, nat_tests)

-- the two answers of a comparison
pub compared : (q p : Candidate) → Before q p ⊎ NoLater p q
compared q p = grind arith

pub better_assoc : (p q r : Candidate) → better (better p q) r ≡ better p (better q r)
better_assoc p q r = grind (arith, nat_tests)

-- what a whole stack offers: its earliest crate, the highest of them
abbrev pub offer : ℕ → List Slot → Candidate
offer s xs = record { late = lowest xs; above = above_of (lowest xs) xs; stack = s }

abbrev crate_in : ℕ → Slot → List Slot → Candidate
crate_in s x xs = record { late = lateness x.call; above = length xs; stack = s }

offer_more : (s : ℕ) (x : Slot) (xs : List Slot) → better (crate_in s x xs) (offer s xs) ≡ offer s (x ∷ xs)
offer_more s x [] = grind (arith, nat_tests)
offer_more s x (y ∷ ys) = grind (arith, nat_tests, above_le (lowest (y ∷ ys)) y ys)

-- a best so far that nobody would not improve
pub record Fair (p : Candidate) : Type 0 where
  pub cap : p.late ≤ 65536
  pub bare : p.late ≡ 65536 → p.above ≡ 0

pub fair_nobody : Fair nobody
fair_nobody = record { cap = omega arith; bare = λ e. refl }

pub fair_better : (p q : Candidate) → Fair p → Fair (better p q)
fair_better p q f =
    cond_both (beats q p) q p Fair
    (λ e. record { cap = grind (arith, nat_tests, f.cap); bare = λ z. grind (arith, nat_tests, f.cap, f.bare) })
    (λ e. f)

pub scan_stack_lem : (best : Candidate) (s : ℕ) (xs : List Slot) → Fair best → scan_stack best s xs ≡ better best (offer s xs)
scan_stack_lem best s [] f = sym (stays best (offer s []) (grind (arith, f.cap, f.bare)))
scan_stack_lem best s (x ∷ xs) f =
    scan_stack_lem (better best (crate_in s x xs)) s xs (fair_better best (crate_in s x xs) f)
    ∙ better_assoc best (crate_in s x xs) (offer s xs)
    ∙ ap (better best) (offer_more s x xs)
