-- What the stacks of a working bay say of the bay that it means.
use Rattle.std.proofs.Common.{◌≡◌, ℕ, zero, suc, ◌+◌, ◌-◌, ◌<◌, ◌≤◌, true, false, ltb, leb, ◌≢◌, ◌⊎◌, List, [], ◌∷◌, ◌++◌, map, length, get_or, take, set, sym, refl, ap, ◌∙◌, subst, inl, inr, arith}
use Rattle.std.proofs.lemmas.Bool.{lt-ltb, le-ltb, le-leb, lt-leb, and_from, and_left, and_right}
use Rattle.std.proofs.lemmas.Bool.Decides.{nat_tests}
use Rattle.std.proofs.lemmas.List.{map-set, take_more_set, length-map, length-take-le, take-map, get_or-map, get_or-take, get_or_past, set_past}
use Rattle.std.proofs.Math.Seq.{take-set-lt}
use Rattle.model.specs.Bays as model
use Rattle.model.specs.Bays.{Bay, no_stack, items_at, stack_at, is_there, changed, put_on, holding, Sound}
use Rattle.model.proofs.Changes.{put}
use Rattle.model.proofs.Soundness.{sound_put, sound_cut}
use Rattle.bay.specs.Ask.{height_at}
use Rattle.bay.specs.Build.{Newcomer}
use Rattle.bay.specs.declared.stack.Stack.{Stack}
use Rattle.bay.specs.declared.work.WorkBay.{WorkBay}
use Rattle.bay.specs.Slots.{slot_shown}
use Rattle.bay.specs.Stacks.{stack_shown, bay_of}
use Rattle.bay.specs.Shown.{shown}

-- each stack keeps to the limits
heights : (xs : List Stack) (i : ℕ) → length (items_at (map stack_shown xs) i) ≤ 8
heights [] i = omega arith
heights (x ∷ xs) zero = omega (arith, length-map (take x.height x.slots) slot_shown, length-take-le x.height x.slots (omega (arith, x.tall, x.whole)), x.tall)
heights (x ∷ xs) (suc i) = heights xs i

clearances : (xs : List Stack) (i : ℕ) → (get_or (map stack_shown xs) i no_stack).clearance ≤ 8
clearances [] i = omega arith
clearances (x ∷ xs) zero = x.cleared
clearances (x ∷ xs) (suc i) = clearances xs i

-- one stack of some is changed
pub one_changed : (F : model.Stack → List model.Slot) (xs : List Stack) (i : ℕ) (d new : Stack) → i < length xs → stack_shown new ≡ holding (stack_shown (get_or xs i d)) (F (stack_shown (get_or xs i d)))
    → map stack_shown (set xs i new) ≡ changed (map stack_shown xs) (suc i) (F (get_or (map stack_shown xs) i no_stack))
one_changed F xs i d new l e =
    map-set stack_shown xs i new
    ∙ ap (set (map stack_shown xs) i) (e ∙ ap (λ t. holding t (F t)) (sym (get_or-map stack_shown xs i d no_stack l)))

module _ (n : ℕ) (xs : List Stack) where
  pub bay_is : bay_of n xs ≡ map stack_shown (take n xs)
  unfolding bay_of
  bay_is = take-map stack_shown n xs

  pub bay_length : n ≤ length xs → length (bay_of n xs) ≡ n
  unfolding bay_of
  bay_length l = length-take-le n (map stack_shown xs) (omega (arith, length-map xs stack_shown))

  pub bay_at : (i : ℕ) (d : Stack) → i < n → n ≤ length xs → get_or (bay_of n xs) i no_stack ≡ stack_shown (get_or xs i d)
  unfolding bay_of
  bay_at i d l m = get_or-take n (map stack_shown xs) i no_stack l ∙ get_or-map stack_shown xs i d no_stack (omega arith)

  -- other things in one stack
  pub bay_changed : (ys : List Stack) (i : ℕ) (zs : List model.Slot) → i < n → map stack_shown ys ≡ changed (map stack_shown xs) (suc i) zs → bay_of n ys ≡ changed (bay_of n xs) (suc i) zs
  unfolding bay_of
  bay_changed ys i zs l e =
      ap (take n) e
      ∙ take-set-lt n (map stack_shown xs) i (holding (get_or (map stack_shown xs) i no_stack) zs) l
      ∙ ap (λ s. set (take n (map stack_shown xs)) i (holding s zs)) (sym (get_or-take n (map stack_shown xs) i no_stack l))

  -- one stack more
  pub bay_more : (s : Stack) → n < length xs → bay_of (n + 1) (set xs n s) ≡ bay_of n xs ++ stack_shown s ∷ []
  unfolding bay_of
  bay_more s l = ap (take (n + 1)) (map-set stack_shown xs n s) ∙ take_more_set (map stack_shown xs) n (stack_shown s) (omega (arith, length-map xs stack_shown))

  -- what stands in one stack
  pub bay_items : (i : ℕ) → i < n → items_at (map stack_shown xs) i ≡ items_at (bay_of n xs) i
  unfolding bay_of
  bay_items i l = ap (λ (s : model.Stack). s.items) (sym (get_or-take n (map stack_shown xs) i no_stack l))

module _ (w : WorkBay) where
  pub count_is : w.count ≡ length (shown w)
  count_is = sym (bay_length w.count w.stacks (omega (arith, w.few, w.whole)))

  -- every working bay is a sound bay
  pub work_sound : Sound (shown w)
  work_sound =
      record {
        few = omega (arith, count_is, w.few);
        heights = λ i. subst (λ b. length (items_at b i) ≤ 8) (sym (bay_is w.count w.stacks)) (heights (take w.count w.stacks) i);
        clearances = λ i. subst (λ b. (get_or b i no_stack).clearance ≤ 8) (sym (bay_is w.count w.stacks)) (clearances (take w.count w.stacks) i);
        once = w.once;
        apart = w.apart;
        ranged = w.ranged;
      }

  pub there : (s : ℕ) → s ≢ 0 → s ≤ w.count → is_there (shown w) s ≡ true
  there s p q = and_from (ltb 0 s) (leb s (length (shown w))) (lt-ltb 0 s (omega arith)) (le-leb s (length (shown w)) (omega (arith, count_is)))

  pub absent : (s : ℕ) → (s ≡ 0) ⊎ (w.count < s) → is_there (shown w) s ≡ false
  absent s (inl e) = and_left (ltb 0 s) (leb s (length (shown w))) (le-ltb 0 s (omega arith))
  absent s (inr l) = and_right (ltb 0 s) (leb s (length (shown w))) (lt-leb s (length (shown w)) (omega (arith, count_is)))

  pub stack_is : (s i : ℕ) (d : Stack) → i < w.count → suc i ≡ s → stack_shown (get_or w.stacks i d) ≡ stack_at (shown w) s
  stack_is s i d l e = sym (bay_at w.count w.stacks i d l (omega (arith, w.few, w.whole))) ∙ ap (stack_at (shown w)) e

past : (b : Bay) (i : ℕ) → is_there b (suc i) ≡ false → length b ≤ i
past b i e = grind (arith, nat_tests)

-- the place of a stack that is there, as the code counts it
pub placed : (w : WorkBay) (s n : ℕ) → n ≡ s → is_there (shown w) s ≡ true → (n - 1 < w.count) × (suc (n - 1) ≡ s)
placed w s n q e = let l = count_is w in (grind (arith, nat_tests), grind (arith, nat_tests))

-- where no stack is nothing stands
pub nowhere : (b : Bay) (s : ℕ) → is_there b s ≡ false → stack_at b s ≡ no_stack
nowhere b zero e = refl
nowhere b (suc i) e = get_or_past b i no_stack (past b i e)

-- a crate put on a stack, and some taken off one
module _ (w : WorkBay) (ys : List Stack) (s i : ℕ) (l : i < w.count) (e : suc i ≡ s) where
  here : i < length (shown w)
  here = omega (arith, count_is w)

  pub row_items : items_at (map stack_shown w.stacks) i ≡ (stack_at (shown w) s).items
  row_items = bay_items w.count w.stacks i l ∙ ap (λ z. (stack_at (shown w) z).items) e

  pub laid : (x : model.Slot) → map stack_shown ys ≡ put_on (map stack_shown w.stacks) (suc i) x → bay_of w.count ys ≡ put_on (shown w) s x
  unfolding put_on
  laid x q =
      bay_changed w.count w.stacks ys i (items_at (map stack_shown w.stacks) i ++ x ∷ []) l q
      ∙ ap (λ zs. changed (shown w) (suc i) (zs ++ x ∷ [])) (bay_items w.count w.stacks i l)
      ∙ ap (λ z. changed (shown w) z ((stack_at (shown w) z).items ++ x ∷ [])) e

  pub laid_sound : (x : model.Slot) → map stack_shown ys ≡ put_on (map stack_shown w.stacks) (suc i) x → height_at (shown w) s < 8 → Newcomer (shown w) x → Sound (bay_of w.count ys)
  laid_sound x q h n =
      subst Sound (sym (laid x q))
      (subst (λ z. Sound (put_on (shown w) z x)) e
      (sound_put (shown w) _ i x (put (shown w) i x here) (subst (λ z. height_at (shown w) z < 8) (sym e) h) n.new n.unheld n.ranged (work_sound w)))

  module _ (n : ℕ) (q : map stack_shown ys ≡ changed (map stack_shown w.stacks) (suc i) (take (length (items_at (map stack_shown w.stacks) i) - n) (items_at (map stack_shown w.stacks) i))) where
    cut : bay_of w.count ys ≡ changed (shown w) (suc i) (take (height_at (shown w) (suc i) - n) (stack_at (shown w) (suc i)).items)
    cut =
        bay_changed w.count w.stacks ys i _ l q
        ∙ ap (λ zs. changed (shown w) (suc i) (take (length zs - n) zs)) (bay_items w.count w.stacks i l)

    pub cut_is : bay_of w.count ys ≡ changed (shown w) s (take (height_at (shown w) s - n) (stack_at (shown w) s).items)
    cut_is = cut ∙ ap (λ z. changed (shown w) z (take (height_at (shown w) z - n) (stack_at (shown w) z).items)) e

    pub cut_sound : Sound (bay_of w.count ys)
    cut_sound = subst Sound (sym cut) (sound_cut (shown w) i (height_at (shown w) (suc i) - n) here (work_sound w))

-- of a stack that is not there nothing is taken
pub cut_absent : (b : Bay) (s : ℕ) (zs : List model.Slot) → is_there b s ≡ false → b ≡ changed b s zs
cut_absent b zero zs e = refl
cut_absent b (suc i) zs e = sym (set_past b i _ (past b i e))
