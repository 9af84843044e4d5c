-- A legal handling brings out every called crate, lowest call number first.
use Rattle.std.proofs.Common.{◌≡◌, ℕ, suc, ◌+◌, ◌<◌, ◌≤◌, min, ◌⊎◌, List, [], ◌∷◌, ◌++◌, Some, None, sym, ap, ◌∙◌, subst, inl, inr, arith}
use Rattle.std.proofs.lemmas.Bool.{cases_eq}
use Rattle.std.proofs.lemmas.Bool.Decides.{nat_tests}
use Rattle.model.specs.Bays.{Bay, Stack, Slot, items_at, stack_at, taken_from, relocated, top_slot, Sound, tally, tally_in, is_call, out_of_range}
use Rattle.model.specs.Targets.{lateness, lowest, target, Targeted}
use Rattle.model.specs.Moves.{Move, retrieve, relocate, Handles, stack_of}
use Rattle.model.specs.Leaving.{leaving, Rising, is_slot, BringsOut}
use Rattle.model.proofs.Stacks.{top_slot_snoc, lowest_snoc}
use Rattle.model.proofs.Calls.{lateness_call, has_call, tally_at}
use Rattle.model.proofs.Changes.{Taken, taken, Carried, carried, taken_tally, carried-tally, topmost}
use Rattle.model.proofs.Handlings.{legal_retrieve, legal_relocate, Relocates}
use Rattle.model.proofs.Honesty.{none_low}
use Rattle.model.proofs.Soundness.{topping, sound_retrieved, by_places, relocates}
use Rattle.model.proofs.Targets.{least_at}

-- every crate is called later than k
abbrev pub Above : ℕ → Bay → Type 0
Above k b = (j : ℕ) → k < lowest (items_at b j)

-- with no target no crate is called
late_none : (x y : Slot) → 0 < x.call → 65536 ≤ lateness y.call → is_slot x y ≤ out_of_range y
unfolding lateness
late_none x y p l = grind (arith, nat_tests)

none_in : (x : Slot) → 0 < x.call → (ys : List Slot) → 65536 ≤ lowest ys → tally_in (is_slot x) ys ≤ tally_in out_of_range ys
none_in x p [] l = omega arith
none_in x p (y ∷ ys) l = omega (arith, late_none x y p (omega arith), none_in x p ys (omega arith))

none_over : (x : Slot) → 0 < x.call → (b : Bay) → ((j : ℕ) → 65536 ≤ lowest (items_at b j)) → tally (is_slot x) b ≤ tally out_of_range b
none_over x p [] f = omega arith
none_over x p (s ∷ b) f =
    let l : 65536 ≤ lowest s.items = f 0 in
    omega (arith, none_in x p s.items l, none_over x p b (λ j. f (suc j)))

none_called : (b : Bay) → target b ≡ None → Sound b → (x : Slot) → 0 < x.call → tally (is_slot x) b ≡ 0
none_called b e so x p = omega (arith, none_over x p b (none_low b e), so.ranged)

-- a retrieval: the crate on top of the target's stack is the earliest, and every other is called later
pub record Retrieved (b : Bay) (s : ℕ) (y : Slot) : Type 0 where
  pub place : ℕ
  pub here : lowest (items_at b place) ≡ y.call
  pub tallies : (f : Slot → ℕ) → tally f (taken_from b s) + f y ≡ tally f b
  pub later : Sound b → Above y.call (taken_from b s)

own_call : (k : ℕ) (y : Slot) → y.call ≡ k → is_call k y ≡ 1
own_call k y e = grind (arith, nat_tests)

retrieved_at : (b : Bay) (k i : ℕ) (ys : List Slot) (y : Slot) → Targeted b k i 0 → items_at b i ≡ ys ++ y ∷ [] → Retrieved b (suc i) y
retrieved_at b k i ys y t e =
    record { place = i; here = t.here ∙ sym calls; tallies = taken_tally b _ i ys y tk; later = λ so j. subst (λ z. z < lowest (items_at (taken_from b (suc i)) j)) (sym calls) (above so j) }
  where
    tk : Taken b (taken_from b (suc i)) i ys y
    tk = taken b i ys y t.inside e

    tm : (lateness y.call ≡ k) × (k ≤ lowest ys)
    tm = topmost b k i ys y t e

    calls : y.call ≡ k
    calls = (lateness_call y.call k tm.0 t.called).0

    low : (j : ℕ) → (j ≡ i) ⊎ (j ≡ i → ⊥) → k ≤ lowest (items_at (taken_from b (suc i)) j)
    low j (inl q) = rw q (omega (arith, ap lowest tk.here, tm.1))
    low j (inr q) = omega (arith, ap (λ (x : Stack). lowest x.items) (tk.other j q), least_at b k i 0 t j)

    above : Sound b → (j : ℕ) → k < lowest (items_at (taken_from b (suc i)) j)
    above so j =
        let h = has_call k (items_at (taken_from b (suc i)) j) in
        grind (arith, low j (cases_eq j i), tally_at (is_call k) (taken_from b (suc i)) j, taken_tally b _ i ys y tk (is_call k), own_call k y calls, so.apart k, t.called)

pub retrieved : (b : Bay) (s : ℕ) → target b ≡ Some (s, 0) → Retrieved b s (top_slot (stack_at b s).items)
retrieved b s e =
    let w = topping b s 0 e in
    let i = w.shows.place in
    let top : top_slot (items_at b i) ≡ w.tops.top = ap top_slot w.tops.is ∙ top_slot_snoc w.tops.under w.tops.top in
    rw (w.shows.number, top) (retrieved_at b w.shows.call i w.tops.under w.tops.top w.shows.targeted w.tops.is)

-- a relocation keeps what stands
pub record Shifted (b b' : Bay) : Type 0 where
  pub tallies : (f : Slot → ℕ) → tally f b' ≡ tally f b
  pub low : (k : ℕ) → Above k b → Above k b'

shifted_at : (b b' : Bay) (i j : ℕ) (ys : List Slot) (y : Slot) → items_at b i ≡ ys ++ y ∷ [] → Carried b b' i j ys y → Shifted b b'
shifted_at b b' i j ys y e mv =
    record { tallies = carried-tally b b' i j ys y mv; low = λ k l m. by k l m (cases_eq m i) (cases_eq m j) }
  where
    at_i : lowest (items_at b i) ≡ min (lateness y.call) (lowest ys)
    at_i = ap lowest e ∙ lowest_snoc ys y

    at_j : lowest (items_at b' j) ≡ min (lateness y.call) (lowest (items_at b j))
    at_j = ap lowest mv.into ∙ lowest_snoc (items_at b j) y

    by : (k : ℕ) → Above k b → (m : ℕ) → (m ≡ i) ⊎ (m ≡ i → ⊥) → (m ≡ j) ⊎ (m ≡ j → ⊥) → k < lowest (items_at b' m)
    by k l m (inl p) q = rw p (omega (arith, ap lowest mv.from, at_i, l i))
    by k l m (inr p) (inl q) = rw q (omega (arith, at_j, at_i, l i, l j))
    by k l m (inr p) (inr q) = omega (arith, ap (λ (x : Stack). lowest x.items) (mv.other m p q), l m)

pub shifted : (b : Bay) (d : ℕ) (r : Relocates b d) → Shifted b (relocated b r.s d)
shifted b d r =
    by_places b d r (λ s e. Shifted b (relocated b s e))
    (λ k i j t l ne _ top. shifted_at b _ i j top.under top.top top.is (carried b i j top.under top.top t.inside l ne top.is))

-- over a whole handling
leaves_rising : (ms : List Move) (b : Bay) (k : ℕ) → Sound b → Above k b → Handles b ms → Rising k (leaving b ms)
leaves_rising [] b k so l g = tt
leaves_rising (retrieve ∷ ms) b k so l g =
    let t = legal_retrieve b g.0 in
    let r = retrieved b t.0 t.1 in
    let q : stack_of (target b) ≡ t.0 = ap stack_of t.1 in
    let g' : Handles (taken_from b t.0) ms = rw q at g.1 in
    rw q (omega (arith, r.here, l r.place), leaves_rising ms (taken_from b t.0) _ (sound_retrieved b t.0 t.1 so) (r.later so) g')
leaves_rising (relocate d ∷ ms) b k so l g =
    let t = legal_relocate b d g.0 in
    let q : stack_of (target b) ≡ t.s = ap stack_of t.is in
    let g' : Handles (relocated b t.s d) ms = rw q at g.1 in
    rw q (leaves_rising ms (relocated b t.s d) k ((relocates b d t).sound so) ((shifted b d t).low k l) g')

leaves_every : (ms : List Move) (b : Bay) → Sound b → Handles b ms → (x : Slot) → 0 < x.call → tally_in (is_slot x) (leaving b ms) ≡ tally (is_slot x) b
leaves_every [] b so g x p = sym (none_called b g so x p)
leaves_every (retrieve ∷ ms) b so g x p =
    let t = legal_retrieve b g.0 in
    let r = retrieved b t.0 t.1 in
    let q : stack_of (target b) ≡ t.0 = ap stack_of t.1 in
    let g' : Handles (taken_from b t.0) ms = rw q at g.1 in
    rw q (omega (arith, r.tallies (is_slot x), leaves_every ms (taken_from b t.0) (sound_retrieved b t.0 t.1 so) g' x p))
leaves_every (relocate d ∷ ms) b so g x p =
    let t = legal_relocate b d g.0 in
    let q : stack_of (target b) ≡ t.s = ap stack_of t.is in
    let g' : Handles (relocated b t.s d) ms = rw q at g.1 in
    rw q (omega (arith, (shifted b d t).tallies (is_slot x), leaves_every ms (relocated b t.s d) ((relocates b d t).sound so) g' x p))

positive : (k : ℕ) → 0 < lateness k
unfolding lateness
positive k = grind (arith, nat_tests)

lowest_positive : (xs : List Slot) → 0 < lowest xs
lowest_positive [] = omega arith
lowest_positive (x ∷ xs) = omega (arith, positive x.call, lowest_positive xs)

pub brings_out : (b : Bay) (ms : List Move) → Sound b → Handles b ms → BringsOut b ms
brings_out b ms so g = record { rising = leaves_rising ms b 0 so (λ j. lowest_positive (items_at b j)) g; every = leaves_every ms b so g }
