use Rattle.std.proofs.Common.{ltb, map, refl, ap, ◌∙◌, rules, tests}
use Rattle.std.proofs.lemmas.Iterator.{YieldsList-from_slice}
use Rattle.std.proofs.lemmas.Iterator.Search.{any_from_yields_List}
use Rattle.model.specs.Bays.{tally, tally_in}
use Rattle.bay.specs.Label.{bearing}
use Rattle.bay.specs.Stacks.{stack_shown}
use Rattle.bay.proofs.Slots.{any_counts}
use Rattle.bay.proofs.work.WorkBay.bears.Goals as goal

pub returns : goal.returns
returns c =
    let xs = c.stacks.result.now in
    let f = bearing c.args.label in
    any_from_yields_List (λ x. ltb 0 (tally_in (bearing c.args.label) (stack_shown x).items)) _ _ _ c.any.ensures.ran (YieldsList-from_slice xs cc) (λ x b q k. search (rules, tests))
    ∙ any_counts (λ x. tally_in f (stack_shown x).items) (λ ys. tally f (map stack_shown ys)) refl (λ y ys. refl) xs
    ∙ ap (λ ys. ltb 0 (tally f ys)) c.stacks.ensures.value
