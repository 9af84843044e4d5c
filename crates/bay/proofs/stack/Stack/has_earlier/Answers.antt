use Rattle.std.proofs.Common.{ltb, map, take, ap, ◌∙◌, arith, rules, tests}
use Rattle.std.proofs.lemmas.Iterator.{YieldsList-from_slice}
use Rattle.std.proofs.lemmas.Iterator.Search.{any_from_yields_List}
use Rattle.model.specs.Targets.{lateness, lowest}
use Rattle.bay.specs.Slots.{slot_shown}
use Rattle.bay.proofs.Slots.{any_earlier, lateness_cap}
use Rattle.bay.proofs.stack.Stack.has_earlier.Goals as goal

pub returns : goal.returns
returns c =
    let xs = c.slots.result.now in
    let late = c.lateness-late.result in
    any_from_yields_List (λ x. ltb (lateness (slot_shown x).call) late) _ _ _ c.any.ensures.ran (YieldsList-from_slice xs cc) (λ x b q k. search (rules, tests))
    ∙ any_earlier late (omega (arith, c.lateness-late.ensures, lateness_cap c.args.than.call.number c.args.than.call.fits)) xs
    ∙ ap (λ ys. ltb (lowest ys) late) c.slots.ensures.value
    ∙ ap (ltb (lowest (map slot_shown (take c.args.self.now.height c.args.self.now.slots)))) c.lateness-late.ensures
