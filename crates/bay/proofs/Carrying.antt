-- A crate carried from one stack to another.
use Rattle.std.proofs.Common.{◌≡◌, ℕ, zero, suc, ◌<◌, ◌≤◌, true, not, eqb, ◌≢◌, List, [], ◌∷◌, length, sym, refl, ap, ◌∙◌, subst, ⊎_elim, arith}
use Rattle.std.proofs.lemmas.Bool.{eq-eqb, ltb-true, eqb-false, and_parts, not-true, cases_lt}
use Rattle.std.proofs.lemmas.Bool.Decides.{nat_tests}
use Rattle.std.proofs.lemmas.List.{get_or_past}
use Rattle.model.specs.Bays.{Bay, Stack, Slot, is_there, no_stack, items_at, stack_at, top_slot, taken_from, one, is_crate, is_call, out_of_range, has_space, Sound}
use Rattle.model.proofs.Stacks.{Topped, topped, top_slot_snoc}
use Rattle.model.proofs.Changes.{Taken, taken, taken_tally}
use Rattle.bay.specs.Ask.{height_at, opens}
use Rattle.bay.specs.Build.{Newcomer}

-- the place of a stack, counted from 0
pub record Placed (b : Bay) (s : ℕ) : Type 0 where
  pub place : ℕ
  pub number : suc place ≡ s
  pub inside : place < length b

-- where something stands, or something may, there is a stack
pub standing : (b : Bay) (s : ℕ) → 0 < height_at b s → Placed b s
standing b zero h = absurd (omega arith)
standing b (suc i) h = record {
  place = i;
  number = refl;
  inside = ⊎_elim (λ l. l) (λ l. absurd (omega (arith, ap (λ (s : Stack). length s.items) (get_or_past b i no_stack l)))) (cases_lt i (length b));
}

pub spacious : (b : Bay) (s : ℕ) → height_at b s < (stack_at b s).clearance → Placed b s
spacious b zero h = absurd (omega arith)
spacious b (suc i) h = record {
  place = i;
  number = refl;
  inside = ⊎_elim (λ l. l) (λ l. absurd (omega (arith, ap (λ (s : Stack). s.clearance) (get_or_past b i no_stack l)))) (cases_lt i (length b));
}

pub is_standing : (b : Bay) (s : ℕ) → 0 < height_at b s → is_there b s ≡ true
is_standing b s h = let p = standing b s h in let n = p.number in let l = p.inside in grind (arith, nat_tests)

-- a stack that is open is another one, and has space
pub record Open (b : Bay) (from to : ℕ) : Type 0 where
  pub other : from ≢ to
  pub space : height_at b to < (stack_at b to).clearance

pub opened : (b : Bay) (from to : ℕ) → true ≡ opens b from to → Open b from to
opened b from to o =
    let p = and_parts (not (eqb from to)) (has_space (stack_at b to)) (sym o) in
    record { other = eqb-false from to (not-true (eqb from to) p.0); space = ltb-true (height_at b to) (stack_at b to).clearance p.1 }

-- a crate that was taken off is new to what is left
pub newcomer_taken : (b b' : Bay) (i : ℕ) (ys : List Slot) (y : Slot) → Sound b → Taken b b' i ys y → Newcomer b' y
newcomer_taken b b' i ys y so t =
    record {
      new = let e = taken_tally b b' i ys y t (is_crate y.crate) in let m = ap one (eq-eqb y.crate y.crate refl) in omega (arith, so.once y.crate);
      unheld = λ p. let e = taken_tally b b' i ys y t (is_call y.call) in let m = ap one (eq-eqb y.call y.call refl) in omega (arith, so.apart y.call p);
      ranged = let e = taken_tally b b' i ys y t out_of_range in omega (arith, so.ranged);
    }

pub top_of : (xs : List Slot) → 0 < length xs → Topped xs
top_of [] q = absurd (omega arith)
top_of (x ∷ xs) q = topped x xs

-- after the top crate of place i is taken off
module _ (b : Bay) (so : Sound b) (i : ℕ) (l : i < length b) (h : 0 < length (items_at b i)) where
  tops : Topped (items_at b i)
  tops = top_of (items_at b i) h

  takes : Taken b (taken_from b (suc i)) i tops.under tops.top
  takes = taken b i tops.under tops.top l tops.is

  taken_new : Newcomer (taken_from b (suc i)) (top_slot (items_at b i))
  taken_new =
      subst (Newcomer (taken_from b (suc i))) (sym (ap top_slot tops.is ∙ top_slot_snoc tops.under tops.top))
      (newcomer_taken b (taken_from b (suc i)) i tops.under tops.top so takes)

  taken_other : (j : ℕ) → j ≢ i → length (items_at (taken_from b (suc i)) j) ≡ length (items_at b j)
  taken_other j ne = ap (λ (s : Stack). length s.items) (takes.other j ne)

-- what putting it down asks
module _ (b : Bay) (so : Sound b) (from to : ℕ) (h : 0 < height_at b from) where
  from_at : Placed b from
  from_at = standing b from h

  pub taken_newcomer : Newcomer (taken_from b from) (top_slot (stack_at b from).items)
  taken_newcomer =
      let p = from_at in
      subst (λ z. Newcomer (taken_from b z) (top_slot (stack_at b z).items)) p.number
      (taken_new b so p.place p.inside (subst (λ z. 0 < height_at b z) (sym p.number) h))

  pub taken_low : Open b from to → height_at (taken_from b from) to < 8
  taken_low o =
      let p = from_at in
      let q = spacious b to o.space in
      let room : (stack_at b to).clearance ≤ 8 = subst (λ z. (stack_at b z).clearance ≤ 8) q.number (so.clearances q.place) in
      let same : height_at (taken_from b (suc p.place)) (suc q.place) ≡ height_at b (suc q.place) =
      taken_other b so p.place p.inside (subst (λ z. 0 < height_at b z) (sym p.number) h) q.place (λ z. o.other (sym p.number ∙ ap suc (sym z) ∙ q.number)) in
      subst (λ z. height_at (taken_from b z) to < 8) p.number
      (subst (λ z. height_at (taken_from b (suc p.place)) z < 8) q.number (omega (arith, same, ap (height_at b) q.number, o.space, room)))
