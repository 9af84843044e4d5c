use Rattle.std.proofs.Common.{ap, length, arith}
use Rattle.model.specs.Bays.{crates}
use Rattle.search.proofs.Carried.{handed, went, kept, spent, barred, fewer_out, same_to}
use Rattle.search.proofs.carrying.moves.Goals as goal

pub loop-crate_number-smaller-in-Some : goal.loop-crate_number-smaller-in-Some
loop-crate_number-smaller-in-Some c = omega (arith, fewer_out c.in-Some.ensures)

pub loop-crate_number-preserved-in-Some : goal.loop-crate_number-preserved-in-Some
loop-crate_number-preserved-in-Some c = handed c.loop-crate_number.invariant c.in-Some.crate_number c.in_ok-push.ensures.items c.in-Some.ensures

pub returns-in_default-next : goal.returns-in_default-next
returns-in_default-next c = spent c.loop-crate_number.invariant c.in_default-next.ensures.steps.0 c.in_default.ensures

pub returns-in_default-relocate : goal.returns-in_default-relocate
returns-in_default-relocate c =
    barred c.loop-crate_number.invariant c.in-Some-next.ensures.steps c.in_default.ensures c.in_default-relocate.ensures

pub loop-crate_number-smaller : goal.loop-crate_number-smaller
loop-crate_number-smaller c =
    omega (arith, ap crates c.in_default.ensures.same, same_to c.in-Some-relocate.ensures, ap length c.in-Some-next.ensures.steps)

pub loop-crate_number-preserved : goal.loop-crate_number-preserved
loop-crate_number-preserved c =
    went (kept c.loop-crate_number.invariant c.in_default.ensures) c.in-Some-relocate.crate_number c.in-Some-next.ensures.steps c.in_ok-push-2.ensures.items c.in-Some-relocate.ensures
