-- When a bay can be built further, and what comes of it.
use Rattle.std.specs.Prelude.{◌≡◌, ℕ, ◌<◌, cond, not, ◌&&◌, [], ◌∷◌, ◌++◌, length, Some, None, Ok, Err, Option, Result, ◌==◌, nat_le, nat_lt}
use Rattle.model.specs.Bays.{Bay, Slot, is_there, stack_at, tally, is_crate, is_call, out_of_range}
use Rattle.bay.specs.declared.faults.BuildFault.{BuildFault}
use Rattle.bay.specs.declared.faults.BuildFault.TheVariants.{TooManyStacks, ClearanceTooHigh, NoSuchStack, StackFull, CrateZero, CrateTwice, CallTwice}

-- a stack more: at most twelve, with a clearance of at most eight
abbrev pub stack_fault : Bay → ℕ → Option BuildFault
stack_fault b c = cond (nat_le 12 (length b)) (Some TooManyStacks) (cond (nat_lt 8 c) (Some ClearanceTooHigh) None)

abbrev pub with_stack : Bay → ℕ → Bay
with_stack b c = b ++ record { clearance = c; items = [] } ∷ []

-- a crate more: on a stack that is there and not eight high, whatever its clearance; no number twice
abbrev pub crate_fault : Bay → ℕ → Slot → Option BuildFault
crate_fault b s x =
    cond (not (is_there b s)) (Some NoSuchStack)
    (cond (nat_le 8 (length (stack_at b s).items)) (Some StackFull)
    (cond (x.crate == 0) (Some CrateZero)
    (cond (nat_lt 0 (tally (is_crate x.crate) b)) (Some CrateTwice)
    (cond (nat_lt 0 x.call && nat_lt 0 (tally (is_call x.call) b)) (Some CallTwice) None))))

-- the fault that a call came to, and what it leaves: the new bay if there was none, else the old one
abbrev pub fault_of : {X : Type 0} → Result X BuildFault → Option BuildFault
fault_of (Ok x) = None
fault_of (Err f) = Some f

abbrev pub unless : {X : Type 0} → Option BuildFault → X → X → X
unless None new old = new
unless (Some f) new old = old

-- a crate that stands nowhere in the bay, with a call number that nobody has
pub record Newcomer (b : Bay) (x : Slot) : Type 0 where
  pub new : tally (is_crate x.crate) b ≡ 0
  pub unheld : 0 < x.call → tally (is_call x.call) b ≡ 0
  pub ranged : out_of_range x ≡ 0
