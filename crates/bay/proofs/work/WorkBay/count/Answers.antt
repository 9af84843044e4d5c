use Rattle.bay.proofs.Bays.{count_is}
use Rattle.bay.proofs.work.WorkBay.count.Goals as goal

pub returns : goal.returns
returns c = count_is c.args.self.now
