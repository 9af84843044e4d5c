-- What the scan for the target comes to.
use Rattle.std.proofs.Common.{◌≡◌, ℕ, suc, ◌<◌, ◌≤◌, cond, List, map, drop, length, Some, None, sym, ap, ◌∙◌}
use Rattle.std.proofs.lemmas.Bool.{lt-ltb, le-ltb}
use Rattle.std.proofs.lemmas.List.{at_drop_all}
use Rattle.model.specs.Bays.{Bay}
use Rattle.model.specs.Targets.{Candidate, nobody, scan_bay, chosen, target}
use Rattle.bay.specs.declared.stack.Stack.{Stack}
use Rattle.bay.specs.Stacks.{stack_shown}

-- with no stack left the scan of the whole bay has come to the best so far
pub scanned : (b : Bay) (xs : List Stack) (n : ℕ) (best : Candidate) → map stack_shown xs ≡ b
    → scan_bay nobody 1 (map stack_shown xs) ≡ scan_bay best (suc n) (map stack_shown (drop n xs)) → length xs ≤ n → scan_bay nobody 1 b ≡ best
scanned b xs n best e i l = ap (scan_bay nobody 1) (sym e) ∙ i ∙ at_drop_all (λ ys. scan_bay best (suc n) (map stack_shown ys)) xs n l

-- the answer
pub answer_some : (b : Bay) (c : Candidate) → scan_bay nobody 1 b ≡ c → c.late < 65536 → Some (c.stack, c.above) ≡ target b
unfolding target
answer_some b c e l = sym (ap chosen e ∙ ap (λ t. cond t (Some (c.stack, c.above)) None) (lt-ltb c.late 65536 l))

pub answer_none : (b : Bay) (c : Candidate) → scan_bay nobody 1 b ≡ c → 65536 ≤ c.late → None ≡ target b
unfolding target
answer_none b c e l = sym (ap chosen e ∙ ap (λ t. cond t (Some (c.stack, c.above)) None) (le-ltb c.late 65536 l))
