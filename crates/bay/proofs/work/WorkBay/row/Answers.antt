use Rattle.std.proofs.Common.{inl, inr}
use Rattle.bay.proofs.Bays.{absent}
use Rattle.bay.proofs.work.WorkBay.row.Goals as goal
use Rattle.bay.proofs.work.WorkBay.row.Goals.{then-s-eq0-via-then-s-eq0, then-s-eq0-via-else-s-eq0+then-s-self}

pub returns-then-s-eq0 : goal.returns-then-s-eq0
returns-then-s-eq0 c =
    elim c.then-s-eq0.branch [
      | then-s-eq0-via-then-s-eq0 v ↦ absent c.args.self.now c.args.s (inl v.if-s-eq0.true)
      | then-s-eq0-via-else-s-eq0+then-s-self v ↦ absent c.args.self.now c.args.s (inr v.if-s-self.true)
    ]
