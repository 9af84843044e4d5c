use Rattle.model.proofs.Figures.{worked}
use Rattle.model.proofs.worked.worked_bays.Goals as goal

pub returns : goal.returns
returns c = worked
