-- The look-ahead, one target on.
use Rattle.std.proofs.Common.{◌≡◌, ℕ, suc, ◌+◌, ◌-◌, ◌<◌, ◌≤◌, List, map, length, take, drop, Some, None, sym, ap, ◌∙◌, add-one, arith}
use Rattle.std.proofs.lemmas.List.{length-map, length-drop, drop-map, take_rest}
use Rattle.bay.specs.declared.slot.Slot.{Slot}
use Rattle.bay.specs.Ask.{height_at}
use Rattle.bay.specs.Slots.{slot_shown}
use Rattle.model.specs.Bays.{Bay, stack_at, changed, crates, tally_in, Sound}
use Rattle.model.specs.Bounds.{weight, look_ahead}
use Rattle.model.specs.Targets.{target}
use Rattle.model.proofs.LookAhead.{ahead_one, ahead_end, fewer_off}
use Rattle.model.proofs.Remaining.{above_small}
use Rattle.model.proofs.Targets.{above_under}

module _ (b : Bay) (s a : ℕ) (e : Some (s, a) ≡ target b) where
  pub covers : a < height_at b s
  covers = above_under b s a (sym e)

  pub few_above : Sound b → a ≤ 7
  few_above so = above_small b s a (sym e) so

  -- the target and all above it leave
  abbrev left : Bay
  left = changed b s (take (height_at b s - (a + 1)) (stack_at b s).items)

  pub fewer : (c : Bay) → c ≡ left → crates c + suc a ≡ crates b
  fewer c r = ap (λ z. crates z + suc a) (r ∙ ap (λ z. changed b s (take (height_at b s - z) (stack_at b s).items)) (add-one a)) ∙ fewer_off b s a (sym e)

  -- the crates above the target, as the code cuts them off the stack's
  module _ (xs : List Slot) (q : map slot_shown xs ≡ (stack_at b s).items) (m : ℕ) (p : m ≡ a) where
    high : length xs ≡ height_at b s
    high = sym (length-map xs slot_shown) ∙ ap length q

    pub above_fits : m ≤ length xs
    above_fits = omega (arith, high, covers)

    abbrev above : List Slot
    above = take (length xs - (length xs - m)) (drop (length xs - m) xs)

    pub above_length : length above ≡ a
    above_length = ap length (take_rest xs (length xs - m)) ∙ length-drop (length xs - m) xs ∙ omega (arith, above_fits)

    above_is : map slot_shown above ≡ drop (height_at b s - a) (stack_at b s).items
    above_is =
        ap (map slot_shown) (take_rest xs (length xs - m))
        ∙ sym (drop-map slot_shown (length xs - m) xs)
        ∙ ap (drop (length xs - m)) q
        ∙ ap (λ n. drop n (stack_at b s).items) (omega (arith, high))

    pub looked : (n : ℕ) (c : Bay) → n ≡ tally_in (weight b s) (map slot_shown above) → c ≡ left → look_ahead b ≡ n + look_ahead c
    looked n c e' r =
        ahead_one b s a (sym e)
        ∙ ap (λ z. z + look_ahead (changed b s (take (height_at b s - suc a) (stack_at b s).items))) (sym (e' ∙ ap (tally_in (weight b s)) above_is))
        ∙ ap (λ z. n + look_ahead z) (sym (r ∙ ap (λ z. changed b s (take (height_at b s - z) (stack_at b s).items)) (add-one a)))

pub looked_all : (b : Bay) → None ≡ target b → look_ahead b ≡ 0
looked_all b e = ahead_end b (sym e)
