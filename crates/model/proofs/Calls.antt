-- Call numbers in a bay: an earliest crate has the call of its lateness, and in a sound bay nobody else has it.
use Rattle.std.proofs.Common.{◌≡◌, ℕ, zero, suc, ◌+◌, ◌<◌, ◌≤◌, ◌≢◌, List, [], ◌∷◌, ⊎_elim, arith}
use Rattle.std.proofs.lemmas.Bool.{cases_lt}
use Rattle.std.proofs.lemmas.Bool.Decides.{nat_tests}
use Rattle.model.specs.Bays.{Bay, Slot, items_at, tally, tally_in, is_call, Sound}
use Rattle.model.specs.Targets.{lateness, lowest, Targeted}

-- a called crate of lateness k has the call number k
pub lateness_call : (c k : ℕ) → lateness c ≡ k → k < 65536 → (c ≡ k) × (0 < k)
unfolding lateness
lateness_call c k e l = grind (arith, nat_tests)

pub has_call : (k : ℕ) (xs : List Slot) → lowest xs ≡ k → k < 65536 → (0 < k) × (0 < tally_in (is_call k) xs)
has_call k [] e l = absurd (omega arith)
has_call k (x ∷ xs) e l = grind (arith, nat_tests, lateness_call x.call k, has_call k xs)

-- what one stack has the bay has
pub tally_at : (f : Slot → ℕ) (b : Bay) (j : ℕ) → tally_in f (items_at b j) ≤ tally f b
tally_at f [] j = omega arith
tally_at f (s ∷ b) zero = omega arith
tally_at f (s ∷ b) (suc j) = omega (arith, tally_at f b j)

two_tallies : (f : Slot → ℕ) (b : Bay) (i j : ℕ) → i < j → tally_in f (items_at b i) + tally_in f (items_at b j) ≤ tally f b
two_tallies f [] i j o = omega arith
two_tallies f (s ∷ b) zero zero o = absurd (omega arith)
two_tallies f (s ∷ b) zero (suc j) o = omega (arith, tally_at f b j)
two_tallies f (s ∷ b) (suc i) zero o = absurd (omega arith)
two_tallies f (s ∷ b) (suc i) (suc j) o = omega (arith, two_tallies f b i j (omega arith))

-- in a sound bay no other stack has a crate called as early as the target
pub alone : (b : Bay) (k i a : ℕ) → Sound b → Targeted b k i a → (j : ℕ) → j ≢ i → k < lowest (items_at b j)
alone b k i a so t j ne = grind (arith, t.least j, two)
  where
    two : lowest (items_at b j) ≡ k → ⊥
    two e =
        let p = has_call k (items_at b i) t.here t.called in
        let q = has_call k (items_at b j) e t.called in
        let u : tally (is_call k) b ≤ 1 = so.apart k p.0 in
        ⊎_elim (λ o. omega (arith, two_tallies (is_call k) b i j o, p.1, q.1))
        (λ o. omega (arith, two_tallies (is_call k) b j i (omega arith), p.1, q.1))
        (cases_lt i j)
