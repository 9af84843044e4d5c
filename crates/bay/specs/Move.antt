-- What a retrieval and a relocation of a working bay tell and do: b before, b' after.
use Rattle.std.specs.Prelude.{◌≡◌, ℕ, Some, None, Option}
use Rattle.model.specs.declared.numbers.CrateNumber.{CrateNumber}
use Rattle.model.specs.Bays.{Bay}
use Rattle.model.specs.Carrying.{top_crate}
use Rattle.model.specs.Targets.{target}
use Rattle.model.specs.Moves.{Move, Legal, moved, stack_of}

-- the move was legal and was made: the crate that moved, and the stack that it left
pub record Made (b : Bay) (m : Move) (b' : Bay) (c s : ℕ) : Type 0 where
  pub legal : Legal b m
  pub after : b' ≡ moved b m
  pub crate : c ≡ top_crate b
  pub stack : s ≡ stack_of (target b)

-- the move was not legal, and nothing changed
pub record Left (b : Bay) (m : Move) (b' : Bay) : Type 0 where
  pub illegal : Legal b m → ⊥
  pub same : b' ≡ b

abbrev pub MoveTold : Bay → Move → Bay → Option (CrateNumber × ℕ) → Type 0
MoveTold b m b' None = Left b m b'
MoveTold b m b' (Some t) = Made b m b' t.0.number t.1
