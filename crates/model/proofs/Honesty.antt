-- The blocking count and the look-ahead are honest, by one induction over a legal handling.
use Rattle.std.proofs.Common.{◌≡◌, ℕ, zero, suc, ◌+◌, ◌<◌, ◌≤◌, min, true, ◌||◌, eqb, ltb, ◌≢◌, ◌⊎◌, List, [], ◌∷◌, ◌++◌, length, replicate, Some, None, Option, sym, refl, ap, ◌∙◌, inl, inr, ⊎_elim, append_assoc, append-nil, arith}
use Rattle.std.proofs.lemmas.Bool.{cases_eq, and_parts}
use Rattle.std.proofs.lemmas.Bool.Decides.{nat_tests}
use Rattle.std.proofs.lemmas.List.{length-replicate}
use Rattle.model.specs.Bays.{Bay, Slot, no_stack, items_at, taken_from, relocated, stack_at, top_slot, crates, total, tally, tally_in, one, out_of_range, Sound}
use Rattle.model.specs.Targets.{lateness, lowest, above_of, target, NoEarlier, Targeted}
use Rattle.model.specs.Moves.{Move, retrieve, relocate, Handles, relocations}
use Rattle.model.specs.Bounds.{blockers, blocking, elsewhere, weight}
use Rattle.model.proofs.Stacks.{Topped, topped, lowest_le, top_slot_snoc}
use Rattle.model.proofs.Targets.{target_is, Seen, seen, nothing, something}
use Rattle.model.proofs.Calls.{alone}
use Rattle.model.proofs.Changes.{Taken, taken, Carried, carried, peeled, topmost}
use Rattle.model.proofs.Settling.{some_fewer}
use Rattle.model.proofs.Handlings.{Relocates, legal_retrieve, legal_relocate}
use Rattle.model.proofs.Soundness.{topping, sound_retrieved, by_places, relocates}

-- the look-ahead, one crate at a time
abbrev pub peel_on : (Bay → ℕ) → Bay → ℕ → ℕ → ℕ
peel_on more c s zero = more (taken_from c s)
peel_on more c s (suc a) = weight c s (top_slot (stack_at c s).items) + more (taken_from c s)

abbrev pub peel_at : (Bay → ℕ) → Bay → Option (ℕ × ℕ) → ℕ
peel_at more c None = 0
peel_at more c (Some t) = peel_on more c t.0 t.1

abbrev pub peel_for : ℕ → Bay → ℕ
peel_for zero c = 0
peel_for (suc n) c = peel_at (peel_for n) c (target c)

unfoldable pub peeled_ahead : Bay → ℕ
peeled_ahead b = peel_for (crates b) b

abbrev B : List Slot → ℕ
B = blockers 65536

blockers_snoc : (low : ℕ) (xs : List Slot) (y : Slot) → low ≤ 65536
    → blockers low (xs ++ y ∷ []) ≡ blockers low xs + one (ltb (min low (lowest xs)) (lateness y.call))
blockers_snoc low [] y c = let e : min low 65536 ≡ low = omega arith in rw e (omega arith)
blockers_snoc low (x ∷ xs) y c =
    let m = min low (lateness x.call) in
    let e : min low (min (lateness x.call) (lowest xs)) ≡ min (min low (lateness x.call)) (lowest xs) = omega arith in
    rw e (omega (arith, blockers_snoc m xs y (omega arith)))

lowest_part : (xs ys : List Slot) → lowest (xs ++ ys) ≤ lowest xs
lowest_part [] ys = lowest_le ys
lowest_part (x ∷ xs) ys = omega (arith, lowest_part xs ys)

blockers_top : (xs : List Slot) (y : Slot) → B (xs ++ y ∷ []) ≡ B xs + one (ltb (lowest xs) (lateness y.call))
blockers_top xs y = blockers_snoc 65536 xs y (omega arith) ∙ ap (λ z. B xs + one (ltb z (lateness y.call))) (omega (arith, lowest_le xs))

blockers_on : (xs : List Slot) (y : Slot) → lowest xs < lateness y.call → B (xs ++ y ∷ []) ≡ suc (B xs)
blockers_on xs y l = grind (arith, nat_tests, blockers_top xs y)

blockers_off : (xs : List Slot) (y : Slot) → lateness y.call ≤ lowest xs → B (xs ++ y ∷ []) ≡ B xs
blockers_off xs y l = grind (arith, nat_tests, blockers_top xs y)

blockers_up : (xs : List Slot) (y : Slot) → B xs ≤ B (xs ++ y ∷ [])
blockers_up xs y = omega (arith, blockers_top xs y)

-- xs is a lower part of zs
pub record Lower (xs zs : List Slot) : Type 0 where
  pub rest : List Slot
  pub is : zs ≡ xs ++ rest

-- the stacks of c are lower parts of those of b
pub record Copy (c b : Bay) : Type 0 where
  pub long : length c ≡ length b
  pub parts : (i : ℕ) → Lower (items_at c i) (items_at b i)

copy_lowest : (c b : Bay) → Copy c b → (i : ℕ) → lowest (items_at b i) ≤ lowest (items_at c i)
copy_lowest c b p i = rw (p.parts i).is (lowest_part (items_at c i) (p.parts i).rest)

-- a target in a stack that is whole in the copy is the copy's target
copy_target : (c b : Bay) (k i a : ℕ) → Sound b → Copy c b → Targeted b k i a → items_at c i ≡ items_at b i → Targeted c k i a
copy_target c b k i a so p t e =
    record {
      called = t.called;
      inside = omega (arith, p.long, t.inside);
      here = ap lowest e ∙ t.here;
      above = ap (above_of k) e ∙ t.above;
      least = λ j. ⊎_elim (λ q. own q) (λ q. inl (later j q)) (cases_eq j i);
      first = λ j l. inl (later j (λ q. omega arith));
    }
  where
    later : (j : ℕ) → j ≢ i → k < lowest (items_at c j)
    later j q = let l = alone b k i a so t j q in omega (arith, copy_lowest c b p j)

    own : {j : ℕ} → j ≡ i → NoEarlier k a (items_at c j)
    own q = rw q (inr (ap lowest e ∙ t.here, omega (arith, ap (above_of k) e, t.above)))

-- the copy, as b changes
copy_taken : (c b b' : Bay) (i : ℕ) (ys : List Slot) (y : Slot) → Copy c b → Lower (items_at c i) ys → Taken b b' i ys y → Copy c b'
copy_taken c b b' i ys y p l t =
    record {
      long = p.long ∙ sym t.long;
      parts = λ m. ⊎_elim (λ q. record { rest = l.rest; is = cc }) (λ q. let o = t.other m q in let r = p.parts m in record { rest = r.rest; is = cc }) (cases_eq m i);
    }

copy_both : (c c' b b' : Bay) (i : ℕ) (ys : List Slot) (y : Slot) → Copy c b → Taken c c' i ys y → Taken b b' i ys y → Copy c' b'
copy_both c c' b b' i ys y p u t =
    record {
      long = u.long ∙ p.long ∙ sym t.long;
      parts = λ m. ⊎_elim (λ q. record { rest = []; is = cc (append-nil ys) })
          (λ q. let o = t.other m q in let n = u.other m q in let r = p.parts m in record { rest = r.rest; is = cc }) (cases_eq m i);
    }

copy_carried : (c b b' : Bay) (i j : ℕ) (ys : List Slot) (y : Slot) → Copy c b → Lower (items_at c i) ys → Carried b b' i j ys y → Copy c b'
copy_carried c b b' i j ys y p l t = record { long = p.long ∙ sym t.long; parts = λ m. at m (p.parts m) (cases_eq m i) (cases_eq m j) }
  where
    at : (m : ℕ) → Lower (items_at c m) (items_at b m) → (m ≡ i) ⊎ (m ≡ i → ⊥) → (m ≡ j) ⊎ (m ≡ j → ⊥) → Lower (items_at c m) (items_at b' m)
    at m r (inl q) o = record { rest = l.rest; is = cc }
    at m r (inr q) (inl o) = record { rest = r.rest ++ y ∷ []; is = cc (append_assoc (items_at c m) r.rest (y ∷ [])) }
    at m r (inr q) (inr o) = record { rest = r.rest; is = cc (t.other m q o) }

copy_carried_both : (c c' b b' : Bay) (i j : ℕ) (ys : List Slot) (y : Slot) → j ≢ i → Copy c b → Taken c c' i ys y → Carried b b' i j ys y → Copy c' b'
copy_carried_both c c' b b' i j ys y ne p u t =
    record { long = u.long ∙ p.long ∙ sym t.long; parts = λ m. at m (p.parts m) (cases_eq m i) (cases_eq m j) }
  where
    at : (m : ℕ) → Lower (items_at c m) (items_at b m) → (m ≡ i) ⊎ (m ≡ i → ⊥) → (m ≡ j) ⊎ (m ≡ j → ⊥) → Lower (items_at c' m) (items_at b' m)
    at m r (inl q) o = record { rest = []; is = cc (append-nil ys) }
    at m r (inr q) (inl o) = record { rest = r.rest ++ y ∷ []; is = cc (append_assoc (items_at c m) r.rest (y ∷ []), u.other m q) }
    at m r (inr q) (inr o) = record { rest = r.rest; is = cc (t.other m q o, u.other m q) }

-- either the copy's stack is whole, or its top is no part of the copy
pub data Part (c b : Bay) (i : ℕ) : Type 0 where
  whole : items_at c i ≡ items_at b i → Part c b i
  partly : (ys : List Slot) (y : Slot) → items_at b i ≡ ys ++ y ∷ [] → Lower (items_at c i) ys → Part c b i

part : (c b : Bay) (i : ℕ) → Copy c b → Part c b i
part c b i p = by (p.parts i).rest (p.parts i).is
  where
    by : (r : List Slot) → items_at b i ≡ items_at c i ++ r → Part c b i
    by [] e = whole (sym (e ∙ append-nil (items_at c i)))
    by (x ∷ r) e =
        let t = topped x r in
        partly (items_at c i ++ t.under) t.top (cc (append_assoc (items_at c i) t.under (t.top ∷ []))) (record { rest = t.under; is = refl })

-- the look-ahead, one crate at a time
pub ahead_none : (c : Bay) → target c ≡ None → peeled_ahead c ≡ 0
unfolding peeled_ahead
ahead_none c e = by (crates c)
  where
    by : (n : ℕ) → peel_for n c ≡ 0
    by zero = refl
    by (suc n) = ap (peel_at (peel_for n) c) e

pub ahead_some : (c : Bay) (s a : ℕ) → target c ≡ Some (s, a) → peeled_ahead c ≡ peel_on peeled_ahead c s a
unfolding peeled_ahead
ahead_some c s a e =
    ap (λ n. peel_for n c) (sym (some_fewer c s a e)) ∙ ap (peel_at (peel_for (crates (taken_from c s))) c) e ∙ by a
  where
    by : (a : ℕ) → peel_on (peel_for (crates (taken_from c s))) c s a ≡ peel_on (λ x. peel_for (crates x) x) c s a
    by zero = refl
    by (suc a) = refl

-- every other stack holds an earlier one
else_earlier : (l s n : ℕ) (c : Bay) → elsewhere l s n c ≡ true → (j : ℕ) → j < length c → n + j ≢ s → lowest (items_at c j) < l
else_earlier l s n [] e j lt ne = absurd (omega arith)
else_earlier l s n (x ∷ c) e zero lt ne =
    let q = (and_parts (eqb s n || ltb (lowest x.items) l) (elsewhere l s (suc n) c) e).0 in grind (arith, nat_tests)
else_earlier l s n (x ∷ c) e (suc j) lt ne =
    else_earlier l s (suc n) c (and_parts (eqb s n || ltb (lowest x.items) l) (elsewhere l s (suc n) c) e).1 j (omega arith) (λ q. ne (omega arith))

-- no called crate, nothing blocked
late_cap : (x : Slot) → out_of_range x ≡ 0 → lateness x.call ≤ 65536
unfolding lateness
late_cap x e = grind (arith, nat_tests)

quiet : (xs : List Slot) → tally_in out_of_range xs ≡ 0 → 65536 ≤ lowest xs → B xs ≡ 0
quiet [] e l = refl
quiet (x ∷ xs) e l =
    let is : lateness x.call ≡ 65536 = omega (arith, late_cap x (omega arith)) in
    rw is (omega (arith, quiet xs (omega arith) (omega arith)))

quiet_total : (b : Bay) → tally out_of_range b ≡ 0 → ((j : ℕ) → 65536 ≤ lowest (items_at b j)) → total B b ≡ 0
quiet_total [] e f = refl
quiet_total (s ∷ b) e f =
    let l : 65536 ≤ lowest s.items = f 0 in
    omega (arith, quiet s.items (omega arith) l, quiet_total b (omega arith) (λ j. f (suc j)))

pub none_low : (b : Bay) → target b ≡ None → (j : ℕ) → 65536 ≤ lowest (items_at b j)
none_low b e = by (seen b)
  where
    by : Seen b → (j : ℕ) → 65536 ≤ lowest (items_at b j)
    by (nothing _ q) = q
    by (something k i a t q) = cc

copy_none : (c b : Bay) → Copy c b → target b ≡ None → target c ≡ None
copy_none c b p e = by (seen c)
  where
    by : Seen c → target c ≡ None
    by (nothing q _) = q
    by (something k i a t q) =
        absurd (omega (arith, t.called, t.here, copy_lowest c b p i, none_low b e i))

-- a retrieval
pub record OutStep (b c b' : Bay) : Type 0 where
  pub copy : Bay
  pub copies : Copy copy b'
  pub ahead : peeled_ahead c ≡ peeled_ahead copy
  pub counts : total B b' + total B c ≡ total B b + total B copy

out_step_at : (b c : Bay) (k i : ℕ) → Sound b → Copy c b → Targeted b k i 0 → Topped (items_at b i) → OutStep b c (taken_from b (suc i))
out_step_at b c k i so p t top = by (part c b i p)
  where
    -- the target itself blocks nothing
    free : (ys : List Slot) (y : Slot) → items_at b i ≡ ys ++ y ∷ [] → B (ys ++ y ∷ []) ≡ B ys
    free ys y e =
        let q = topmost b k i ys y t e in
        blockers_off ys y (omega (arith, q.0, q.1))

    by : Part c b i → OutStep b c (taken_from b (suc i))
    by (partly ys y e l) =
        let tk = taken b i ys y t.inside e in
        record { copy = c; copies = copy_taken c b _ i ys y p l tk; ahead = refl; counts = omega (arith, tk.totals B, free ys y e) }
    by (whole q) =
        let ys = top.under in
        let y = top.top in
        let tk = taken b i ys y t.inside top.is in
        let tc = copy_target c b k i 0 so p t q in
        let uk = taken c i ys y tc.inside (q ∙ top.is) in
        record {
          copy = taken_from c (suc i);
          copies = copy_both c _ b _ i ys y p uk tk;
          ahead = ahead_some c (suc i) 0 (target_is c k i 0 tc);
          counts = omega (arith, tk.totals B, uk.totals B, free ys y top.is);
        }

-- a relocation
pub record ToStep (b c b' : Bay) : Type 0 where
  pub copy : Bay
  pub copies : Copy copy b'
  pub counts : peeled_ahead c + total B b + total B copy ≤ 1 + peeled_ahead copy + total B b' + total B c

to_step_at : (b c : Bay) (k i j a : ℕ) → Sound b → Copy c b → Targeted b k i (suc a) → j < length b → j ≢ i → Topped (items_at b i) → ToStep b c (relocated b (suc i) (suc j))
to_step_at b c k i j a so p t l ne top = by (part c b i p)
  where
    -- the top crate blocks the target
    blocks : (ys : List Slot) (y : Slot) → items_at b i ≡ ys ++ y ∷ [] → B (ys ++ y ∷ []) ≡ suc (B ys)
    blocks ys y e = let q = peeled b k i a ys y t e in blockers_on ys y (omega (arith, q.low, q.later))

    -- what the look-ahead adds for y is added to what blocks in place j
    extra : (y : Slot) → one (elsewhere (lateness y.call) (suc i) 1 c) ≤ one (ltb (lowest (items_at b j)) (lateness y.call))
    extra y =
        let f : elsewhere (lateness y.call) (suc i) 1 c ≡ true → lowest (items_at c j) < lateness y.call = λ e. else_earlier (lateness y.call) (suc i) 1 c e j (omega (arith, p.long)) (λ z. ne (omega arith)) in
        grind (arith, nat_tests, copy_lowest c b p j)

    by : Part c b i → ToStep b c (relocated b (suc i) (suc j))
    by (partly ys y e lo) =
        let mv = carried b i j ys y t.inside l ne e in
        record { copy = c; copies = copy_carried c b _ i j ys y p lo mv; counts = omega (arith, mv.totals B, blocks ys y e, blockers_up (items_at b j) y) }
    by (whole q) =
        let ys = top.under in
        let y = top.top in
        let mv = carried b i j ys y t.inside l ne top.is in
        let tc = copy_target c b k i (suc a) so p t q in
        let uk = taken c i ys y tc.inside (q ∙ top.is) in
        let tp : top_slot (items_at c i) ≡ y = ap top_slot (q ∙ top.is) ∙ top_slot_snoc ys y in
        let ah : peeled_ahead c ≡ weight c (suc i) (top_slot (items_at c i)) + peeled_ahead (taken_from c (suc i)) = ahead_some c (suc i) (suc a) (target_is c k i (suc a) tc) in
        let ah' : peeled_ahead c ≡ weight c (suc i) y + peeled_ahead (taken_from c (suc i)) = ah ∙ ap (λ z. weight c (suc i) z + peeled_ahead (taken_from c (suc i))) tp in
        record {
          copy = taken_from c (suc i);
          copies = copy_carried_both c _ b _ i j ys y ne p uk mv;
          counts = omega (arith, mv.totals B, uk.totals B, blocks ys y top.is, blockers_top (items_at b j) y, extra y, ah');
        }

out_step : (b c : Bay) (s : ℕ) → Sound b → Copy c b → target b ≡ Some (s, 0) → OutStep b c (taken_from b s)
out_step b c s so p e =
    let w = topping b s 0 e in
    rw w.shows.number (out_step_at b c w.shows.call w.shows.place so p w.shows.targeted w.tops)

to_step : (b c : Bay) (d : ℕ) (r : Relocates b d) → Sound b → Copy c b → ToStep b c (relocated b r.s d)
to_step b c d r so p =
    by_places b d r (λ s e. ToStep b c (relocated b s e)) (λ k i j t l ne _ top. to_step_at b c k i j r.a so p t l ne top)

-- the relocations of a handling pay for what the copy foresees and for what blocks outside of the copy
pub paid : (ms : List Move) (b c : Bay) → Sound b → Copy c b → Handles b ms → peeled_ahead c + total B b ≤ relocations ms + total B c
paid [] b c so p h = omega (arith, ahead_none c (copy_none c b p h), quiet_total b so.ranged (none_low b h))
paid (retrieve ∷ ms) b c so p h =
    let l = legal_retrieve b h.0 in
    let st = out_step b c l.0 so p l.1 in
    let rest : Handles (taken_from b l.0) ms = rw l.1 at h.1 in
    omega (arith, paid ms (taken_from b l.0) st.copy (sound_retrieved b l.0 l.1 so) st.copies rest, st.ahead, st.counts)
paid (relocate d ∷ ms) b c so p h =
    let r = legal_relocate b d h.0 in
    let st = to_step b c d r so p in
    let rest : Handles (relocated b r.s d) ms = rw r.is at h.1 in
    omega (arith, paid ms (relocated b r.s d) st.copy ((relocates b d r).sound so) st.copies rest, st.counts)

copy_self : (b : Bay) → Copy b b
copy_self b = record { long = refl; parts = λ i. record { rest = []; is = sym (append-nil (items_at b i)) } }

pub ahead_honest : (b : Bay) → Sound b → (ms : List Move) → Handles b ms → peeled_ahead b ≤ relocations ms
ahead_honest b so ms h = omega (arith, paid ms b b so (copy_self b) h)

-- the empty copy
abbrev bare : Bay → Bay
bare b = replicate (length b) no_stack

bare_at : (n i : ℕ) → ◌≡◌ {A = List Slot} (items_at (replicate n no_stack) i) []
bare_at zero i = refl
bare_at (suc n) zero = refl
bare_at (suc n) (suc i) = bare_at n i

bare_blocking : (n : ℕ) → total B (replicate n no_stack) ≡ 0
bare_blocking zero = refl
bare_blocking (suc n) = omega (arith, bare_blocking n)

copy_bare : (b : Bay) → Copy (bare b) b
copy_bare b =
    record { long = length-replicate (length b) no_stack; parts = λ i. record { rest = items_at b i; is = sym (ap (λ v. v ++ items_at b i) (bare_at (length b) i)) } }

pub blocking_honest : (b : Bay) → Sound b → (ms : List Move) → Handles b ms → blocking b ≤ relocations ms
unfolding blocking
blocking_honest b so ms h = omega (arith, paid ms b (bare b) so (copy_bare b) h, bare_blocking (length b))
