use Rattle.std.proofs.Common.{ltb, refl, ap, ◌∙◌, rules, tests}
use Rattle.std.proofs.lemmas.Iterator.{YieldsList-from_slice}
use Rattle.std.proofs.lemmas.Iterator.Search.{any_from_yields_List}
use Rattle.std.proofs.Common.{map}
use Rattle.model.specs.Bays.{tally_in}
use Rattle.bay.specs.Label.{bearing}
use Rattle.bay.specs.Slots.{slot_shown}
use Rattle.bay.proofs.Slots.{any_counts, one_test}
use Rattle.bay.proofs.stack.Stack.bears.Goals as goal

pub returns : goal.returns
returns c =
    let xs = c.slots.result.now in
    let f = bearing c.args.label in
    any_from_yields_List (λ x. ltb 0 (bearing c.args.label (slot_shown x))) _ _ _ c.any.ensures.ran (YieldsList-from_slice xs cc) (λ x b q k. search (rules, tests, one_test))
    ∙ any_counts (λ x. f (slot_shown x)) (λ ys. tally_in f (map slot_shown ys)) refl (λ y ys. refl) xs
    ∙ ap (λ ys. ltb 0 (tally_in f ys)) c.slots.ensures.value
