-- The bay that a working bay means.
use Rattle.model.specs.Bays.{Bay}
use Rattle.bay.specs.declared.work.WorkBay.{WorkBay}
use Rattle.bay.specs.Stacks.{bay_of}

abbrev pub shown : WorkBay → Bay
shown w = bay_of w.count w.stacks
