use Rattle.std.proofs.Common.{ℕ, Bool, true, false, MatchBool, sym, subst}
use Rattle.std.specs.Bool.{then_some}
use Rattle.model.specs.declared.numbers.CrateNumber.{CrateNumber}
use Rattle.model.specs.Bays.{Bay}
use Rattle.model.specs.Moves.{Move, relocate}
use Rattle.bay.specs.Move.{Made, Left, MoveTold}
use Rattle.bay.specs.Shown.{shown}
use Rattle.bay.specs.Slots.{slot_shown}
use Rattle.bay.proofs.Moving.{relocated_if}
use Rattle.bay.proofs.work.WorkBay.relocate.Goals as goal

-- a move is told if it was made
told_if : (b b' : Bay) (m : Move) (t : CrateNumber × ℕ) (r : Bool) → MatchBool r (Made b m b' t.0.number t.1) (Left b m b') → MoveTold b m b' (then_some r t)
told_if b b' m t true made = made
told_if b b' m t false left = left

pub returns : goal.returns
returns c =
    let b = shown c.args.self.now in
    let b' = shown c.carry.new.self in
    subst (MoveTold b (relocate c.args.to) b') (sym c.then_some.ensures)
    (told_if b b' (relocate c.args.to) (c.top-slot.result.number, c.in_ok-s.s) c.carry.result
    (relocated_if b c.in_ok-s.s c.in_ok-s.above c.in_ok-s.ensures.value c.args.to b' (slot_shown c.top-slot.result)
    c.if-above-eq0.false c.top-slot.ensures c.carry.result c.carry.ensures.says c.carry.ensures.after))
