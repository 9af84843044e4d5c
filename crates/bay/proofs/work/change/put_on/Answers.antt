use Rattle.std.proofs.Common.{[], ◌∷◌, ◌++◌}
use Rattle.model.specs.Bays.{put_on}
use Rattle.bay.specs.Slots.{slot_shown}
use Rattle.bay.proofs.Bays.{one_changed}
use Rattle.bay.proofs.work.change.put_on.Goals as goal

pub returns : goal.returns
unfolding put_on
returns c = one_changed (λ t. t.items ++ slot_shown c.args.slot ∷ []) c.args.stacks.now c.args.row c.index-stacks-row.result c.put.new.self c.requires.inside c.put.ensures
