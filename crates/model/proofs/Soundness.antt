-- Legal moves keep a bay sound.
use Rattle.std.proofs.Common.{◌≡◌, ℕ, suc, ◌+◌, ◌<◌, ◌≤◌, ◌≢◌, ◌⊎◌, List, [], ◌∷◌, ◌++◌, length, get_or, take, Some, sym, refl, ap, subst, inl, inr, ⊎_elim, arith}
use Rattle.std.proofs.lemmas.Bool.{cases_eq, cases_order, eq-eqb, ne_eqb}
use Rattle.std.proofs.lemmas.List.{length_push, get_or_push, get_or_append_left, get_or_past, get_or-set_same, get_or-set_other, length-set, length-take}
use Rattle.std.proofs.lemmas.List.Sums.{sum_by_push, sum_by-take-le}
use Rattle.model.specs.Bays.{Bay, Stack, Slot, no_stack, items_at, holding, changed, taken_from, relocated, crates, Sound, CrateId, total, tally, tally_in, one, is_crate, is_call, out_of_range}
use Rattle.model.specs.Targets.{target, Targeted, IsTarget}
use Rattle.model.specs.Moves.{destinations}
use Rattle.model.proofs.Stacks.{Topped}
use Rattle.model.proofs.Targets.{target_is, is_target}
use Rattle.model.proofs.Changes.{topped_if, total_sum, tally_sum, total-set, room_set, Taken, taken, Put, put_tally, Carried, carried, target-carried, taken_tally, carried-tally, carried-crates}
use Rattle.model.proofs.Settling.{Settles, stop, step}
use Rattle.model.proofs.Handlings.{Relocates}
use Rattle.model.proofs.Destinations.{opens}

pub sound_taken : (b b' : Bay) (i : ℕ) (ys : List Slot) (y : Slot) → items_at b i ≡ ys ++ y ∷ [] → Taken b b' i ys y → Sound b → Sound b'
sound_taken b b' i ys y e t s =
    record {
      few = omega (arith, t.long, s.few);
      heights = λ j. ⊎_elim (λ q. rw q (omega (arith, ap length t.here, ap length e, length_push ys y, s.heights i)))
          (λ q. omega (arith, ap (λ (x : Stack). length x.items) (t.other j q), s.heights j)) (cases_eq j i);
      clearances = λ j. omega (arith, t.room j, s.clearances j);
      once = λ c. omega (arith, taken_tally b b' i ys y t (is_crate c), s.once c);
      apart = λ k p. omega (arith, taken_tally b b' i ys y t (is_call k), s.apart k p);
      ranged = omega (arith, taken_tally b b' i ys y t out_of_range, s.ranged);
    }

pub sound_carried : (b b' : Bay) (i j : ℕ) (ys : List Slot) (y : Slot) → items_at b i ≡ ys ++ y ∷ [] → Carried b b' i j ys y
    → length (items_at b j) < (get_or b j no_stack).clearance → Sound b → Sound b'
sound_carried b b' i j ys y e t space s =
    record {
      few = omega (arith, t.long, s.few);
      heights = λ m. high m (cases_eq m i) (cases_eq m j);
      clearances = λ m. omega (arith, t.room m, s.clearances m);
      once = λ c. omega (arith, carried-tally b b' i j ys y t (is_crate c), s.once c);
      apart = λ k p. omega (arith, carried-tally b b' i j ys y t (is_call k), s.apart k p);
      ranged = omega (arith, carried-tally b b' i j ys y t out_of_range, s.ranged);
    }
  where
    high : (m : ℕ) → (m ≡ i) ⊎ (m ≡ i → ⊥) → (m ≡ j) ⊎ (m ≡ j → ⊥) → length (items_at b' m) ≤ 8
    high m (inl q) p = rw q (omega (arith, ap length t.from, ap length e, length_push ys y, s.heights i))
    high m (inr q) (inl p) = rw p (omega (arith, ap length t.into, length_push (items_at b j) y, s.clearances j))
    high m (inr q) (inr p) = omega (arith, ap (λ (x : Stack). length x.items) (t.other m q p), s.heights m)

-- one crate more that stands nowhere yet, with a call that nobody has
pub sound_put : (b b' : Bay) (j : ℕ) (y : Slot) → Put b b' j y → length (items_at b j) < 8 → tally (is_crate y.crate) b ≡ 0
    → (0 < y.call → tally (is_call y.call) b ≡ 0) → out_of_range y ≡ 0 → Sound b → Sound b'
sound_put b b' j y p low new free fits s =
    record {
      few = omega (arith, p.long, s.few);
      heights = λ m. ⊎_elim (λ q. rw q (omega (arith, ap length p.here, length_push (items_at b j) y)))
          (λ q. omega (arith, ap (λ (x : Stack). length x.items) (p.other m q), s.heights m)) (cases_eq m j);
      clearances = λ m. omega (arith, p.room m, s.clearances m);
      once = λ c. once c (cases_eq y.crate c);
      apart = λ k l. apart k l (cases_eq y.call k);
      ranged = omega (arith, put_tally b b' j y p out_of_range, s.ranged);
    }
  where
    once : (c : CrateId) → (y.crate ≡ c) ⊎ (y.crate ≡ c → ⊥) → tally (is_crate c) b' ≤ 1
    once c (inl q) = subst (λ z. tally (is_crate z) b' ≤ 1) q (let e = put_tally b b' j y p (is_crate y.crate) in let i = ap one (eq-eqb y.crate y.crate refl) in omega arith)
    once c (inr q) = let e = put_tally b b' j y p (is_crate c) in let i = ap one (ne_eqb y.crate c q) in omega (arith, s.once c)

    apart : (k : ℕ) → 0 < k → (y.call ≡ k) ⊎ (y.call ≡ k → ⊥) → tally (is_call k) b' ≤ 1
    apart k l (inl q) =
        let e = put_tally b b' j y p (is_call k) in
        let i = ap one (eq-eqb y.call k q) in
        let z : tally (is_call k) b ≡ 0 = subst (λ v. tally (is_call v) b ≡ 0) q (free (omega arith)) in
        omega arith
    apart k l (inr q) = let e = put_tally b b' j y p (is_call k) in let i = ap one (ne_eqb y.call k q) in omega (arith, s.apart k l)

-- one empty stack more
total_more : (F : List Slot → ℕ) (b : Bay) (t : Stack) → total F (b ++ t ∷ []) ≡ total F b + F t.items
total_more F b t = omega (arith, sum_by_push (λ (x : Stack). F x.items) b t, total_sum F (b ++ t ∷ []), total_sum F b)

pub sound_more : (b : Bay) (c : ℕ) → length b < 12 → c ≤ 8 → Sound b → Sound (b ++ record { clearance = c; items = [] } ∷ [])
sound_more b c few le s =
    record {
      few = omega (arith, length_push b (record { clearance = c; items = [] }));
      heights = λ m. each m (λ (x : Stack). length x.items ≤ 8) (s.heights m) (omega arith) (omega arith);
      clearances = λ m. each m (λ (x : Stack). x.clearance ≤ 8) (s.clearances m) le (omega arith);
      once = λ d. omega (arith, total_more (tally_in (is_crate d)) b (record { clearance = c; items = [] }), s.once d);
      apart = λ k l. omega (arith, total_more (tally_in (is_call k)) b (record { clearance = c; items = [] }), s.apart k l);
      ranged = omega (arith, total_more (tally_in out_of_range) b (record { clearance = c; items = [] }), s.ranged);
    }
  where
    each : (m : ℕ) (P : Stack → Type 0) → P (get_or b m no_stack) → P (record { clearance = c; items = [] }) → P no_stack → P (get_or (b ++ record { clearance = c; items = [] } ∷ []) m no_stack)
    each m P old new none = by (cases_order m (length b))
      where
        by : (m ≡ length b) ⊎ ((m < length b) ⊎ (length b < m)) → P (get_or (b ++ record { clearance = c; items = [] } ∷ []) m no_stack)
        by (inl q) = subst P (sym (get_or_push b (record { clearance = c; items = [] }) no_stack m (sym q))) new
        by (inr (inl l)) = subst P (sym (get_or_append_left b (record { clearance = c; items = [] } ∷ []) no_stack m l)) old
        by (inr (inr l)) = subst P (sym (get_or_past (b ++ record { clearance = c; items = [] } ∷ []) m no_stack (omega (arith, length_push b (record { clearance = c; items = [] }))))) none

-- the top of the target's stack
pub record Topping (b : Bay) (s a : ℕ) : Type 0 where
  pub shows : IsTarget b s a
  pub tops : Topped (items_at b shows.place)

pub topping : (b : Bay) (s a : ℕ) → target b ≡ Some (s, a) → Topping b s a
topping b s a e =
    let w = is_target b s a e in
    record { shows = w; tops = topped_if (items_at b w.place) (omega (arith, w.targeted.here, w.targeted.called)) }

pub sound_retrieved : (b : Bay) (s : ℕ) → target b ≡ Some (s, 0) → Sound b → Sound (taken_from b s)
sound_retrieved b s e so =
    let w = topping b s 0 e in
    let i = w.shows.place in
    rw w.shows.number (sound_taken b _ i w.tops.under w.tops.top w.tops.is (taken b i w.tops.under w.tops.top w.shows.targeted.inside w.tops.is) so)

pub sound_settles : {b c : Bay} → Settles b c → Sound b → Sound c
sound_settles (stop w) so = so
sound_settles (step {b} {b'} s e r) so = sound_settles r (sound_retrieved b s e so)

-- a legal relocation, by the place of the target's stack and that of the destination
pub by_places : (b : Bay) (d : ℕ) (r : Relocates b d) (P : ℕ → ℕ → Type 0)
    → ((k i j : ℕ) → Targeted b k i (suc r.a) → j < length b → j ≢ i → length (items_at b j) < (get_or b j no_stack).clearance → Topped (items_at b i) → P (suc i) (suc j))
    → P r.s d
unfolding destinations
by_places b d r P f =
    let w = topping b r.s (suc r.a) r.is in
    let o = opens r.s 1 d b r.opens in
    let ds : d ≡ suc o.j = omega (arith, o.is) in
    let ne : o.j ≢ w.shows.place = λ q. o.else (omega (arith, w.shows.number)) in
    let at : P (suc w.shows.place) (suc o.j) = f w.shows.call w.shows.place o.j w.shows.targeted o.inside ne o.space w.tops in
    subst (λ x. P x d) (sym w.shows.number) (subst (P (suc w.shows.place)) (sym ds) at)

-- what a relocation does
pub record Relocation (b : Bay) (s a d : ℕ) : Type 0 where
  pub sound : Sound b → Sound (relocated b s d)
  pub targets : target (relocated b s d) ≡ Some (s, a)
  pub many : crates (relocated b s d) ≡ crates b

relocates_at : (b : Bay) (k i j a : ℕ) → Targeted b k i (suc a) → j < length b → j ≢ i → length (items_at b j) < (get_or b j no_stack).clearance
    → Topped (items_at b i) → Relocation b (suc i) a (suc j)
relocates_at b k i j a t l ne space top =
    let mv = carried b i j top.under top.top t.inside l ne top.is in
    record {
      sound = sound_carried b _ i j top.under top.top top.is mv space;
      targets = target_is (relocated b (suc i) (suc j)) k i a (target-carried b _ k i j a top.under top.top t ne top.is mv);
      many = carried-crates b _ i j top.under top.top mv;
    }

pub relocates : (b : Bay) (d : ℕ) (r : Relocates b d) → Relocation b r.s r.a d
relocates b d r = by_places b d r (λ s e. Relocation b s r.a e) (λ k i j t l ne sp top. relocates_at b k i j r.a t l ne sp top)

-- a part of one stack is cut off its top
tally_part : (f : Slot → ℕ) (m : ℕ) (xs : List Slot) → tally_in f (take m xs) ≤ tally_in f xs
tally_part f m xs = omega (arith, sum_by-take-le f xs m, tally_sum f (take m xs), tally_sum f xs)

pub sound_cut : (b : Bay) (i m : ℕ) → i < length b → Sound b → Sound (changed b (suc i) (take m (items_at b i)))
sound_cut b i m l s =
    record {
      few = omega (arith, length-set b i (holding (get_or b i no_stack) (take m (items_at b i))), s.few);
      heights = λ j. high j (cases_eq j i);
      clearances = λ j. omega (arith, room_set b i (take m (items_at b i)) j, s.clearances j);
      once = λ c. omega (arith, fewer (is_crate c), s.once c);
      apart = λ k p. omega (arith, fewer (is_call k), s.apart k p);
      ranged = omega (arith, fewer out_of_range, s.ranged);
    }
  where
    fewer : (f : Slot → ℕ) → tally f (changed b (suc i) (take m (items_at b i))) ≤ tally f b
    fewer f = omega (arith, total-set (tally_in f) b i (holding (get_or b i no_stack) (take m (items_at b i))) l, tally_part f m (items_at b i))

    high : (j : ℕ) → (j ≡ i) ⊎ (j ≡ i → ⊥) → length (items_at (changed b (suc i) (take m (items_at b i))) j) ≤ 8
    high j (inl q) =
        rw q (omega (arith, ap (λ (x : Stack). length x.items) (get_or-set_same b i (holding (get_or b i no_stack) (take m (items_at b i))) no_stack l), length-take m (items_at b i), s.heights i))
    high j (inr q) = omega (arith, ap (λ (x : Stack). length x.items) (get_or-set_other b i j (holding (get_or b i no_stack) (take m (items_at b i))) no_stack q), s.heights j)
