-- The worked bays, computed from the definitions.
use Rattle.std.proofs.Common.{refl, inl}
use Rattle.model.specs.Bays.{taken_from, put_on, relocated}
use Rattle.model.specs.Bounds.{blocking, look_ahead}
use Rattle.model.specs.Moves.{destinations, settle}
use Rattle.model.specs.Search.{ways, next, searched, searched_within}
use Rattle.model.specs.Targets.{lateness, target}
use Rattle.model.specs.Worked.{Worked}

pub worked : Worked
unfolding target relocated settle destinations lateness taken_from put_on ways next searched searched_within blocking look_ahead
worked =
    (refl, refl, refl, refl, refl, refl, refl, refl, refl, refl, refl, (inl refl, (tt, (inl refl, (tt, (tt, refl))))), refl)
