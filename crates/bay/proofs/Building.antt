-- A stack more, and a crate more.
use Rattle.std.proofs.Common.{◌≡◌, ℕ, ◌+◌, ◌<◌, ◌≤◌, [], ◌∷◌, ◌++◌, set, Some, None, sym, ap, ◌∙◌, subst, arith}
use Rattle.std.proofs.lemmas.Bool.Decides.{nat_tests}
use Rattle.model.specs.Bays.{Sound}
use Rattle.model.proofs.Soundness.{sound_more}
use Rattle.bay.specs.declared.faults.BuildFault.TheVariants.{TooManyStacks, ClearanceTooHigh}
use Rattle.bay.specs.declared.stack.Stack.{Stack}
use Rattle.bay.specs.declared.work.WorkBay.{WorkBay}
use Rattle.bay.specs.Build.{stack_fault, with_stack}
use Rattle.bay.specs.Stacks.{stack_shown, bay_of}
use Rattle.bay.specs.Shown.{shown}
use Rattle.bay.proofs.Bays.{bay_more, count_is, work_sound}

module _ (w : WorkBay) (c : ℕ) where
  pub stack_many : 12 ≤ w.count → Some TooManyStacks ≡ stack_fault (shown w) c
  stack_many l = let e = count_is w in grind (arith, nat_tests)

  pub stack_high : w.count < 12 → 8 < c → Some ClearanceTooHigh ≡ stack_fault (shown w) c
  stack_high l h = let e = count_is w in grind (arith, nat_tests)

  pub stack_fine : w.count < 12 → c ≤ 8 → None ≡ stack_fault (shown w) c
  stack_fine l h = let e = count_is w in grind (arith, nat_tests)

  module _ (n : ℕ) (s : Stack) (l : w.count < 12) where
    pub stack_more : n ≡ w.count → stack_shown s ≡ record { clearance = c; items = [] } → bay_of (w.count + 1) (set w.stacks n s) ≡ with_stack (shown w) c
    stack_more e q =
        ap (λ m. bay_of (w.count + 1) (set w.stacks m s)) e ∙ bay_more w.count w.stacks s (omega (arith, w.whole)) ∙ ap (λ t. shown w ++ t ∷ []) q

    pub stack_more_sound : c ≤ 8 → n ≡ w.count → stack_shown s ≡ record { clearance = c; items = [] } → Sound (bay_of (w.count + 1) (set w.stacks n s))
    stack_more_sound h e q = subst Sound (sym (stack_more e q)) (sound_more (shown w) c (omega (arith, count_is w)) h (work_sound w))
