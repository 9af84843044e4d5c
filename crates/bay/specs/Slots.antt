-- The crate that a slot of a working bay means.
use Rattle.model.specs.Bays as model
use Rattle.bay.specs.declared.slot.Slot.{Slot}

abbrev pub slot_shown : Slot → model.Slot
slot_shown x = record { crate = x.number.number; call = x.call.number }
