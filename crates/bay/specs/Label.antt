-- What is looked for on crates.
use Rattle.std.specs.Prelude.{ℕ}
use Rattle.model.specs.Bays.{Slot, is_crate, is_call}
use Rattle.bay.specs.declared.faults.Label.{Label}
use Rattle.bay.specs.declared.faults.Label.TheVariants.{Crate, Call}

-- a crate bears a crate number or a call number
abbrev pub bearing : Label → Slot → ℕ
bearing (Crate c) x = is_crate c x
bearing (Call k) x = is_call k x
