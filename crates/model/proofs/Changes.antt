-- What taking, putting and carrying do to a bay.
use Rattle.std.proofs.Common.{◌≡◌, ℕ, suc, ◌+◌, ◌<◌, ◌≤◌, min, ◌≢◌, ◌⊎◌, List, [], ◌∷◌, ◌++◌, length, get_or, set, sym, refl, ap, ◌∙◌, subst, inl, inr, ⊎_elim, arith}
use Rattle.std.proofs.lemmas.Bool.{cases_eq, cases_lt}
use Rattle.std.proofs.lemmas.List.{get_or-set_same, get_or-set_other, set_past, length-set, length_push}
use Rattle.std.specs.List.{sum_by}
use Rattle.std.proofs.lemmas.Grind.{get_or-set_at}
use Rattle.std.proofs.lemmas.List.Sums.{sum_by_push, sum_by-set}
use Rattle.std.proofs.lemmas.List.Recursion.{is_sum_by}
use Rattle.model.specs.Bays.{BayOf, StackOf, items_at, Bay, Stack, Slot, no_stack, taken_from, put_on, relocated, holding, without_top, top_slot, crates, total, tally, tally_in}
use Rattle.model.specs.Targets.{lateness, lowest, above_of, NoEarlier, Targeted}
use Rattle.model.proofs.Stacks.{slots_of, Topped, topped, without_top_snoc, top_slot_snoc, lowest_snoc, above_snoc, above_top}

pub topped_if : (xs : List Slot) → lowest xs < 65536 → Topped xs
topped_if [] l = absurd (omega arith)
topped_if (x ∷ xs) l = topped x xs

-- the bay b' is b with the top crate y of place i taken off, under it ys
pub record Taken {X : Type 0} (b b' : BayOf X) (i : ℕ) (ys : List X) (y : X) : Type 0 where
  pub long : length b' ≡ length b
  pub here : items_at b' i ≡ ys
  pub other : (j : ℕ) → j ≢ i → get_or b' j no_stack ≡ get_or b j no_stack
  pub room : (j : ℕ) → (get_or b' j no_stack).clearance ≡ (get_or b j no_stack).clearance
  pub totals : (F : List X → ℕ) → total F b' + F (ys ++ y ∷ []) ≡ total F b + F ys

pub record Carried (b b' : Bay) (i j : ℕ) (ys : List Slot) (y : Slot) : Type 0 where
  pub long : length b' ≡ length b
  pub from : items_at b' i ≡ ys
  pub into : items_at b' j ≡ items_at b j ++ y ∷ []
  pub other : (m : ℕ) → m ≢ i → m ≢ j → get_or b' m no_stack ≡ get_or b m no_stack
  pub room : (m : ℕ) → (get_or b' m no_stack).clearance ≡ (get_or b m no_stack).clearance
  pub totals : (F : List Slot → ℕ) → total F b' + F (ys ++ y ∷ []) + F (items_at b j) ≡ total F b + F ys + F (items_at b j ++ y ∷ [])

-- a total and a tally are sums
pub total_sum : {X : Type 0} (F : List X → ℕ) (b : BayOf X) → total F b ≡ sum_by (λ (x : StackOf X). F x.items) b
total_sum F = is_sum_by (total F) (λ x. F x.items) refl (λ _ _. refl)

pub tally_sum : {X : Type 0} (f : X → ℕ) (xs : List X) → tally_in f xs ≡ sum_by f xs
tally_sum f = is_sum_by (tally_in f) f refl (λ _ _. refl)

pub total-set : {X : Type 0} (F : List X → ℕ) (b : BayOf X) (i : ℕ) (s : StackOf X) → i < length b → total F (set b i s) + F (items_at b i) ≡ total F b + F s.items
total-set {X = X} F b i s l = omega (arith, sum_by-set (λ (x : StackOf X). F x.items) b i s no_stack l, total_sum F (set b i s), total_sum F b)

pub tally_snoc : {X : Type 0} (f : X → ℕ) (ys : List X) (y : X) → tally_in f (ys ++ y ∷ []) ≡ tally_in f ys + f y
tally_snoc f ys y = omega (arith, sum_by_push f ys y, tally_sum f (ys ++ y ∷ []), tally_sum f ys)

pub room_set : {X : Type 0} (b : BayOf X) (i : ℕ) (l : List X) (j : ℕ) → (get_or (set b i (holding (get_or b i no_stack) l)) j no_stack).clearance ≡ (get_or b j no_stack).clearance
room_set b i l j = grind (arith, cases_eq j i, cases_lt i (length b), get_or-set_at, get_or-set_other, set_past)

pub taken : {X : Type 0} (b : BayOf X) (i : ℕ) (ys : List X) (y : X) → i < length b → items_at b i ≡ ys ++ y ∷ [] → Taken b (taken_from b (suc i)) i ys y
unfolding taken_from
taken {X = X} b i ys y l e =
    record {
      long = length-set b i _;
      here = ap (λ (s : StackOf X). s.items) (get_or-set_same b i _ no_stack l) ∙ ap without_top e ∙ without_top_snoc ys y;
      other = λ j ne. get_or-set_other b i j _ no_stack ne;
      room = room_set b i _;
      totals = λ F.
          let n : F (items_at b i) ≡ F (ys ++ y ∷ []) = ap F e in
          let m : F (without_top (items_at b i)) ≡ F ys = ap F (ap without_top e ∙ without_top_snoc ys y) in
          omega (arith, total-set F b i (holding (get_or b i no_stack) (without_top (items_at b i))) l);
    }

-- the bay b' is b with y put on place j
pub record Put {X : Type 0} (b b' : BayOf X) (j : ℕ) (y : X) : Type 0 where
  pub long : length b' ≡ length b
  pub here : items_at b' j ≡ items_at b j ++ y ∷ []
  pub other : (m : ℕ) → m ≢ j → get_or b' m no_stack ≡ get_or b m no_stack
  pub room : (m : ℕ) → (get_or b' m no_stack).clearance ≡ (get_or b m no_stack).clearance
  pub totals : (F : List X → ℕ) → total F b' + F (items_at b j) ≡ total F b + F (items_at b j ++ y ∷ [])

pub put : {X : Type 0} (b : BayOf X) (j : ℕ) (y : X) → j < length b → Put b (put_on b (suc j) y) j y
unfolding put_on
put {X = X} b j y l =
    record {
      long = length-set b j _;
      here = ap (λ (s : StackOf X). s.items) (get_or-set_same b j _ no_stack l);
      other = λ m ne. get_or-set_other b j m _ no_stack ne;
      room = room_set b j _;
      totals = λ F. total-set F b j (holding (get_or b j no_stack) (items_at b j ++ y ∷ [])) l;
    }

pub carried : (b : Bay) (i j : ℕ) (ys : List Slot) (y : Slot) → i < length b → j < length b → j ≢ i → items_at b i ≡ ys ++ y ∷ []
    → Carried b (relocated b (suc i) (suc j)) i j ys y
unfolding relocated
carried b i j ys y l m ne e =
    let t = taken b i ys y l e in
    let p = put (taken_from b (suc i)) j (top_slot (items_at b i)) (omega (arith, t.long)) in
    let en : i ≢ j = omega arith in
    let top : top_slot (items_at b i) ≡ y = ap top_slot e ∙ top_slot_snoc ys y in
    record {
      long = p.long ∙ t.long;
      from = ap slots_of (p.other i en) ∙ t.here;
      into = p.here ∙ ap (λ (s : Stack). slots_of s ++ top_slot (items_at b i) ∷ []) (t.other j ne) ∙ ap (λ z. items_at b j ++ z ∷ []) top;
      other = λ q ni nj. p.other q nj ∙ t.other q ni;
      room = λ q. p.room q ∙ t.room q;
      totals = λ F.
          let n : F (items_at (taken_from b (suc i)) j) ≡ F (items_at b j) = ap (λ (x : Stack). F (slots_of x)) (t.other j ne) in
          let m : F (items_at (taken_from b (suc i)) j ++ top_slot (items_at b i) ∷ []) ≡ F (items_at b j ++ y ∷ []) =
          ap F (ap (λ (x : Stack). slots_of x ++ top_slot (items_at b i) ∷ []) (t.other j ne) ∙ ap (λ z. items_at b j ++ z ∷ []) top) in
          omega (arith, p.totals F, t.totals F);
    }

module _ (b b' : Bay) (i : ℕ) (ys : List Slot) (y : Slot) (t : Taken b b' i ys y) where
  pub taken_crates : suc (crates b') ≡ crates b
  taken_crates = omega (arith, t.totals length, length_push ys y)

  pub taken_tally : (f : Slot → ℕ) → tally f b' + f y ≡ tally f b
  taken_tally f = omega (arith, t.totals (tally_in f), tally_snoc f ys y)

pub put_tally : {X : Type 0} (b b' : BayOf X) (j : ℕ) (y : X) → Put b b' j y → (f : X → ℕ) → tally f b' ≡ tally f b + f y
put_tally b b' j y p f = omega (arith, p.totals (tally_in f), tally_snoc f (items_at b j) y)

module _ (b b' : Bay) (i j : ℕ) (ys : List Slot) (y : Slot) (t : Carried b b' i j ys y) where
  pub carried-crates : crates b' ≡ crates b
  carried-crates = omega (arith, t.totals length, length_push ys y, length_push (items_at b j) y)

  pub carried-tally : (f : Slot → ℕ) → tally f b' ≡ tally f b
  carried-tally f = omega (arith, t.totals (tally_in f), tally_snoc f ys y, tally_snoc f (items_at b j) y)

-- a stack whose target is not on top: the top crate is later, and without it the target is as it was, one higher
pub record Peeled (k a : ℕ) (ys : List Slot) (y : Slot) : Type 0 where
  pub later : k < lateness y.call
  pub low : lowest ys ≡ k
  pub above : above_of k ys ≡ a

pub peeled : (b : Bay) (k i a : ℕ) (ys : List Slot) (y : Slot) → Targeted b k i (suc a) → items_at b i ≡ ys ++ y ∷ [] → Peeled k a ys y
peeled b k i a ys y t e =
    let l : lowest (items_at b i) ≡ min (lateness y.call) (lowest ys) = ap lowest e ∙ lowest_snoc ys y in
    let n = ap (above_of k) e in
    let lt : k < lateness y.call = grind (arith, above_top k ys y) in
    let low : lowest ys ≡ k = omega arith in
    record { later = lt; low = low; above = omega (arith, above_snoc k ys y t.called lt low) }

-- a stack whose target is on top
pub topmost : (b : Bay) (k i : ℕ) (ys : List Slot) (y : Slot) → Targeted b k i 0 → items_at b i ≡ ys ++ y ∷ [] → (lateness y.call ≡ k) × (k ≤ lowest ys)
topmost b k i ys y t e =
    let l : lowest (items_at b i) ≡ min (lateness y.call) (lowest ys) = ap lowest e ∙ lowest_snoc ys y in
    let n = ap (above_of k) e in
    grind (arith, above_snoc k ys y t.called)

-- a stack that gets a later crate, or of which less is asked, still leaves no earlier
pub no_earlier_less : (k a a' : ℕ) (xs : List Slot) → a ≤ a' → NoEarlier k a' xs → NoEarlier k a xs
no_earlier_less k a a' xs le n = grind arith

pub no_earlier_push : (k a : ℕ) (xs : List Slot) (y : Slot) → k < 65536 → k < lateness y.call → NoEarlier k a xs → NoEarlier k a (xs ++ y ∷ [])
no_earlier_push k a xs y c ly (inl l) = inl (omega (arith, lowest_snoc xs y))
no_earlier_push k a xs y c ly (inr w) =
    inr (omega (arith, lowest_snoc xs y, w.0), omega (arith, w.1, above_snoc k xs y c ly w.0))

-- with its top off the target's stack holds the target as before, with one less above, if no other stack gets an earlier one
pub target_off : (b b' : Bay) (k i a : ℕ) (ys : List Slot) (y : Slot) → Targeted b k i (suc a) → items_at b i ≡ ys ++ y ∷ [] → length b' ≡ length b → items_at b' i ≡ ys
    → ((m x : ℕ) → m ≢ i → NoEarlier k x (items_at b m) → NoEarlier k x (items_at b' m)) → Targeted b' k i a
target_off b b' k i a ys y t e long here other =
    record {
      called = t.called;
      inside = omega (arith, t.inside);
      here = ap lowest here ∙ pl.low;
      above = ap (above_of k) here ∙ pl.above;
      least = λ m. ⊎_elim own (λ p. no_earlier_less k a (suc a) (items_at b' m) (omega arith) (other m (suc a) p (t.least m))) (cases_eq m i);
      first = λ m l. no_earlier_less k (suc a) (suc (suc a)) (items_at b' m) (omega arith) (other m (suc (suc a)) (λ q. omega arith) (t.first m l));
    }
  where
    pl : Peeled k a ys y
    pl = peeled b k i a ys y t e

    own : {m : ℕ} → m ≡ i → NoEarlier k a (items_at b' m)
    own p = rw (p, here) (inr (pl.low, omega (arith, pl.above)))

-- carrying from the target's stack leaves the target there, with one less above
pub target-carried : (b b' : Bay) (k i j a : ℕ) (ys : List Slot) (y : Slot) → Targeted b k i (suc a) → j ≢ i → items_at b i ≡ ys ++ y ∷ []
    → Carried b b' i j ys y → Targeted b' k i a
target-carried b b' k i j a ys y t ne e mv =
    target_off b b' k i a ys y t e mv.long mv.from (λ m x p n. at m x p n (cases_eq m j))
  where
    at : (m x : ℕ) → m ≢ i → NoEarlier k x (items_at b m) → (m ≡ j) ⊎ (m ≡ j → ⊥) → NoEarlier k x (items_at b' m)
    at m x p n (inl q) =
        rw (q, mv.into) (no_earlier_push k x (items_at b j) y t.called (peeled b k i a ys y t e).later (rw q at n))
    at m x p n (inr q) = subst (λ (s : Stack). NoEarlier k x (slots_of s)) (sym (mv.other m p q)) n
