-- The look-ahead by whole stacks is the look-ahead one crate at a time, and so it is honest.
use Rattle.std.proofs.Common.{◌≡◌, ℕ, zero, suc, ◌+◌, ◌-◌, ◌*◌, ◌≤◌, min, ◌&&◌, ◌||◌, eqb, ltb, List, [], ◌∷◌, ◌++◌, length, get_or, take, drop, set, Some, None, Option, sym, refl, ap, ◌∙◌, subst, arith}
use Rattle.std.proofs.lemmas.Bool.{eq-eqb}
use Rattle.std.proofs.lemmas.Bool.Decides.{nat_tests}
use Rattle.std.proofs.lemmas.List.{set-set, take-append-le, drop-append-le, length_push, drop_all, length-take}
use Rattle.model.specs.Bays.{Bay, Stack, Slot, no_stack, items_at, taken_from, stack_at, holding, changed, top_slot, without_top, crates, total, tally_in, one, Sound}
use Rattle.model.specs.Targets.{lateness, lowest, target, NoEarlier, Targeted}
use Rattle.model.specs.Bounds.{elsewhere, weight, ahead_at, ahead_for, look_ahead, blockers, blocking, null}
use Rattle.model.specs.Claims.{Honest}
use Rattle.model.proofs.Stacks.{slots_of, top_slot_snoc}
use Rattle.model.proofs.Targets.{target_is, is_target, above_under_in, Seen, seen, nothing, something}
use Rattle.model.proofs.Changes.{topped_if, Taken, taken, target_off, total-set, room_set, tally_snoc}
use Rattle.model.proofs.Settling.{some_crate}
use Rattle.model.proofs.Honesty.{peel_for, peel_at, peeled_ahead, ahead_none, ahead_some, ahead_honest, blocking_honest}
use Rattle.model.proofs.Remaining.{crates_le}

-- taking off the top leaves the target
target_taken : (b b' : Bay) (k i a : ℕ) (ys : List Slot) (y : Slot) → Targeted b k i (suc a) → items_at b i ≡ ys ++ y ∷ [] → Taken b b' i ys y → Targeted b' k i a
target_taken b b' k i a ys y t e tk =
    target_off b b' k i a ys y t e tk.long tk.here (λ m x p n. subst (λ (s : Stack). NoEarlier k x (slots_of s)) (sym (tk.other m p)) n)

-- what stands in stack s does not matter to the others
elsewhere-set : (l s n i : ℕ) (c : Bay) (x : Stack) → s ≡ n + i → elsewhere l s n (set c i x) ≡ elsewhere l s n c
elsewhere-set l s n i [] x e = refl
elsewhere-set l s n zero (y ∷ c) x e = rw (eq-eqb s n (omega arith))
elsewhere-set l s n (suc i) (y ∷ c) x e =
    ap (λ t. (eqb s n || ltb (lowest y.items) l) && t) (elsewhere-set l s (suc n) i c x (omega arith))

weights_set : (i : ℕ) (c : Bay) (x : Stack) (xs : List Slot) → tally_in (weight (set c i x) (suc i)) xs ≡ tally_in (weight c (suc i)) xs
weights_set i c x [] = refl
weights_set i c x (z ∷ xs) =
    omega (arith, ap one (elsewhere-set (lateness z.call) (suc i) 1 i c x (omega arith)), weights_set i c x xs)

drops : (a : ℕ) (xs xs' ys : List Slot) (y : Slot) → xs ≡ ys ++ y ∷ [] → xs' ≡ ys → drop (length xs - suc a) xs ≡ drop (length xs' - a) xs' ++ y ∷ []
drops a xs xs' ys y e e' =
    let n : length (ys ++ y ∷ []) - suc a ≡ length ys - a = omega (arith, length_push ys y) in
    ap (λ v. drop (length v - suc a) v) e ∙ ap (λ m. drop m (ys ++ y ∷ [])) n ∙ drop-append-le (length ys - a) ys (y ∷ []) (omega arith)
    ∙ sym (ap (λ v. drop (length v - a) v ++ y ∷ []) e')

takes : (a : ℕ) (xs xs' ys : List Slot) (y : Slot) → xs ≡ ys ++ y ∷ [] → xs' ≡ ys → take (length xs' - suc a) xs' ≡ take (length xs - suc (suc a)) xs
takes a xs xs' ys y e e' =
    let n : length (ys ++ y ∷ []) - suc (suc a) ≡ length ys - suc a = omega (arith, length_push ys y) in
    ap (λ v. take (length v - suc a) v) e' ∙ sym (take-append-le (length ys - suc a) ys (y ∷ []) (omega arith))
    ∙ sym (ap (λ v. take (length v - suc (suc a)) v) e ∙ ap (λ m. take m (ys ++ y ∷ [])) n)

changed-changed : (c : Bay) (i : ℕ) (l m : List Slot) → changed (changed c (suc i) l) (suc i) m ≡ changed c (suc i) m
changed-changed c i l m =
    set-set c i _ _ ∙ ap (λ q. set c i (record { clearance = q; items = m })) (room_set c i l i)

-- all above the target at once
at_once : (a : ℕ) (c : Bay) (k i : ℕ) → Targeted c k i a
    → peeled_ahead c ≡ tally_in (weight c (suc i)) (drop (length (items_at c i) - a) (items_at c i)) + peeled_ahead (changed c (suc i) (take (length (items_at c i) - suc a) (items_at c i)))
unfolding taken_from
at_once zero c k i t =
    let e = ahead_some c (suc i) 0 (target_is c k i 0 t) in
    let d : drop (length (items_at c i) - 0) (items_at c i) ≡ [] = drop_all (length (items_at c i) - 0) (items_at c i) (omega arith) in
    rw d (omega (arith, e))
at_once (suc a) c k i t =
    let top = topped_if (items_at c i) (omega (arith, t.here, t.called)) in
    let ys = top.under in
    let y = top.top in
    let tk = taken c i ys y t.inside top.is in
    let c' = taken_from c (suc i) in
    let ih = at_once a c' k i (target_taken c c' k i a ys y t top.is tk) in
    let ah : peeled_ahead c ≡ weight c (suc i) (top_slot (items_at c i)) + peeled_ahead c' = ahead_some c (suc i) (suc a) (target_is c k i (suc a) t) in
    let tp : top_slot (items_at c i) ≡ y = ap top_slot top.is ∙ top_slot_snoc ys y in
    let len : length (items_at c i) ≡ length ys + 1 = ap length top.is ∙ length_push ys y in
    let len' : length (items_at c' i) ≡ length ys = ap length tk.here in
    let dr : drop (length (items_at c i) - suc a) (items_at c i) ≡ drop (length (items_at c' i) - a) (items_at c' i) ++ y ∷ [] = drops a (items_at c i) (items_at c' i) ys y top.is tk.here in
    let tr : take (length (items_at c' i) - suc a) (items_at c' i) ≡ take (length (items_at c i) - suc (suc a)) (items_at c i) = takes a (items_at c i) (items_at c' i) ys y top.is tk.here in
    let ch : changed c' (suc i) (take (length (items_at c' i) - suc a) (items_at c' i)) ≡ changed c (suc i) (take (length (items_at c i) - suc (suc a)) (items_at c i)) =
    changed-changed c i (without_top (items_at c i)) _ ∙ ap (changed c (suc i)) tr in
    omega (
      arith,
      ah,
      ih,
      ap (weight c (suc i)) tp,
      ap (tally_in (weight c (suc i))) dr ∙ tally_snoc (weight c (suc i)) (drop (length (items_at c' i) - a) (items_at c' i)) y,
      weights_set i c (holding (get_or c i no_stack) (without_top (items_at c i))) (drop (length (items_at c' i) - a) (items_at c' i)),
      ap peeled_ahead ch,
    )

fewer_at : (c : Bay) (k i a : ℕ) → Targeted c k i a → crates (changed c (suc i) (take (length (items_at c i) - suc a) (items_at c i))) + suc a ≡ crates c
fewer_at c k i a t =
    omega (
      arith,
      total-set length c i (holding (get_or c i no_stack) (take (length (items_at c i) - suc a) (items_at c i))) t.inside,
      length-take (length (items_at c i) - suc a) (items_at c i),
      above_under_in k (items_at c i) (omega (arith, t.here, t.called)),
    )

ahead_step : (n : ℕ) (c : Bay) → ((d : Bay) → crates d ≤ n → ahead_for n d ≡ peeled_ahead d) → crates c ≤ suc n → Seen c
    → ahead_at (ahead_for n) c (target c) ≡ peeled_ahead c
ahead_step n c ih le (nothing q _) = ap (ahead_at (ahead_for n) c) q ∙ sym (ahead_none c q)
ahead_step n c ih le (something k i a t q) =
    let c' = changed c (suc i) (take (length (items_at c i) - suc a) (items_at c i)) in
    ap (ahead_at (ahead_for n) c) q
    ∙ ap (λ v. tally_in (weight c (suc i)) (drop (length (items_at c i) - a) (items_at c i)) + v) (ih c' (omega (arith, fewer_at c k i a t)))
    ∙ sym (at_once a c k i t)

ahead_zero : (c : Bay) → crates c ≤ 0 → Seen c → 0 ≡ peeled_ahead c
ahead_zero c le (nothing q _) = sym (ahead_none c q)
ahead_zero c le (something k i a t q) = absurd (omega (arith, some_crate c (suc i) a q))

ahead_is : (n : ℕ) (c : Bay) → crates c ≤ n → ahead_for n c ≡ peeled_ahead c
ahead_is zero c le = ahead_zero c le (seen c)
ahead_is (suc n) c le = ahead_step n c (ahead_is n) le (seen c)

pub look_ahead_is : (b : Bay) → look_ahead b ≡ peeled_ahead b
unfolding look_ahead
look_ahead_is b = ahead_is (crates b) b (omega arith)

-- the bounds are small
peel_small_at : (n : ℕ) → ((d : Bay) → peel_for n d ≤ 2 * n) → (c : Bay) (o : Option (ℕ × ℕ)) → peel_at (peel_for n) c o ≤ 2 * suc n
peel_small_at n ih c None = omega arith
peel_small_at n ih c (Some (s, zero)) = omega (arith, ih (taken_from c s))
peel_small_at n ih c (Some (s, suc a)) = grind (arith, nat_tests, ih (taken_from c s))

peel_small : (n : ℕ) (c : Bay) → peel_for n c ≤ 2 * n
peel_small zero c = omega arith
peel_small (suc n) c = peel_small_at n (peel_small n) c (target c)

blockers_small : (low : ℕ) (xs : List Slot) → blockers low xs ≤ length xs
blockers_small low [] = omega arith
blockers_small low (x ∷ xs) = grind (arith, nat_tests, blockers_small (min low (lateness x.call)) xs)

blocking_small : (b : Bay) → total (blockers 65536) b ≤ crates b
blocking_small [] = omega arith
blocking_small (s ∷ b) = omega (arith, blockers_small 65536 s.items, blocking_small b)

pub few_crates : (b : Bay) → Sound b → crates b ≤ 96
few_crates b so = omega (arith, crates_le b so.heights, so.few)

pub null_honest : Honest null
null_honest = record { small = λ b so. omega arith; honest = λ b so ms h. omega arith }

pub blocking_is_honest : Honest blocking
unfolding blocking
blocking_is_honest = record { small = λ b so. omega (arith, blocking_small b, few_crates b so); honest = blocking_honest }

pub look_ahead_honest : Honest look_ahead
unfolding peeled_ahead
look_ahead_honest =
    record {
      small = λ b so. omega (arith, look_ahead_is b, peel_small (crates b) b, few_crates b so);
      honest = λ b so ms h. omega (arith, look_ahead_is b, ahead_honest b so ms h);
    }

-- the rule one target at a time
pub ahead_end : (c : Bay) → target c ≡ None → look_ahead c ≡ 0
ahead_end c e = look_ahead_is c ∙ ahead_none c e

pub ahead_one : (c : Bay) (s a : ℕ) → target c ≡ Some (s, a)
    → look_ahead c ≡ tally_in (weight c s) (drop (length (stack_at c s).items - a) (stack_at c s).items) + look_ahead (changed c s (take (length (stack_at c s).items - suc a) (stack_at c s).items))
ahead_one c s a e =
    let t = is_target c s a e in
    let at = look_ahead_is c ∙ at_once a c t.call t.place t.targeted in
    let c' = changed c (suc t.place) (take (length (items_at c t.place) - suc a) (items_at c t.place)) in
    let whole = at ∙ ap (λ n. tally_in (weight c (suc t.place)) (drop (length (items_at c t.place) - a) (items_at c t.place)) + n) (sym (look_ahead_is c')) in
    subst (λ z. look_ahead c ≡ tally_in (weight c z) (drop (length (stack_at c z).items - a) (stack_at c z).items) + look_ahead (changed c z (take (length (stack_at c z).items - suc a) (stack_at c z).items))) (sym t.number) whole

pub fewer_off : (c : Bay) (s a : ℕ) → target c ≡ Some (s, a) → crates (changed c s (take (length (stack_at c s).items - suc a) (stack_at c s).items)) + suc a ≡ crates c
fewer_off c s a e =
    let t = is_target c s a e in
    subst (λ z. crates (changed c z (take (length (stack_at c z).items - suc a) (stack_at c z).items)) + suc a ≡ crates c) (sym t.number) (fewer_at c t.call t.place a t.targeted)
