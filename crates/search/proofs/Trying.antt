-- A try: the bay after it, and what the bound says of it.
use Rattle.std.proofs.Common.{◌≡◌, ℕ, ◌<◌, ◌≤◌, Bool, true, cond, ltb, sym, ap, ◌∙◌, arith}
use Rattle.std.proofs.lemmas.Bool.{lt-ltb, and_from}
use Rattle.bay.specs.declared.work.WorkBay.{WorkBay}
use Rattle.bay.specs.Ask.{height_at, opens, carries}
use Rattle.bay.specs.Shown.{shown}
use Rattle.bay.proofs.Moving.{target_high}
use Rattle.bay.proofs.Bays.{work_sound}
use Rattle.model.specs.Bays.{Bay, relocated}
use Rattle.model.specs.Moves.{settle, stack_of}
use Rattle.model.specs.Search.{next}
use Rattle.model.specs.Claims.{Honest}
use Rattle.search.specs.declared.workspace.TheConstants.{MOST_RELOCATIONS}
use Rattle.search.specs.Rounds.{Aims}

-- carrying the top crate and settling is what a try does
pub tried_is : (w : WorkBay) (d : ℕ) {v u : Bay} {s : ℕ} {r : Bool} → Aims (shown w) s → opens (shown w) s d ≡ true → r ≡ carries (shown w) s d
    → v ≡ cond r (relocated (shown w) s d) (shown w) → u ≡ settle v → u ≡ next (shown w) d
unfolding next
tried_is w d {s = s} {r = r} a o e q p =
    let high : 0 < height_at (shown w) s = target_high (shown w) s a.above (sym a.is) in
    let so : r ≡ true = e ∙ and_from (ltb 0 (height_at (shown w) s)) (opens (shown w) s d) (lt-ltb 0 (height_at (shown w) s) high) o in
    p ∙ ap settle (q ∙ ap (λ t. cond t (relocated (shown w) s d) (shown w)) so) ∙ ap (λ z. settle (relocated (shown w) z d)) (sym (ap stack_of a.is))

-- a working bay is sound, so an honest bound of it is small
pub estimate_small : (h : Bay → ℕ) → Honest h → (w : WorkBay) (e : ℕ) → e ≡ h (shown w) → e ≤ MOST_RELOCATIONS
estimate_small h o w e q = omega (arith, o.small (shown w) (work_sound w))
