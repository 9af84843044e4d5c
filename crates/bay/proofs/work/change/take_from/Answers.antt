use Rattle.std.proofs.Common.{◌-◌, length, take}
use Rattle.bay.proofs.Bays.{one_changed}
use Rattle.bay.proofs.work.change.take_from.Goals as goal

pub returns : goal.returns
returns c = one_changed (λ t. take (length t.items - c.args.crates) t.items) c.args.stacks.now c.args.row c.index-stacks-row.result c.take_off.new.self c.requires c.take_off.ensures
