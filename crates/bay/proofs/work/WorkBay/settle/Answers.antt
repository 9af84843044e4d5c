use Rattle.std.proofs.Common.{sym, ap, ◌∙◌, arith}
use Rattle.model.specs.Bays.{crates, taken_from}
use Rattle.model.specs.Moves.{settle}
use Rattle.bay.specs.Shown.{shown}
use Rattle.bay.proofs.Moving.{settle_on, settle_fewer, settle_ends, settle_none}
use Rattle.bay.proofs.work.WorkBay.settle.Goals as goal

pub returns-then-above-gt0-clause-after : goal.returns-then-above-gt0-clause-after
returns-then-above-gt0-clause-after c =
    settle_ends (shown c.loop-source.self) c.in-Some.source c.in-Some.above c.in-Some.ensures.value c.if-above-gt0.true ∙ sym c.loop-source.invariant

pub returns-clause-after : goal.returns-clause-after
returns-clause-after c = settle_none (shown c.loop-source.self) c.in_default.ensures.value ∙ sym c.loop-source.invariant

pub loop-source-smaller : goal.loop-source-smaller
unfolding taken_from
loop-source-smaller c = omega (arith, settle_fewer (shown c.loop-source.self) c.in-Some.source c.in-Some.above c.in-Some.ensures.value (omega (arith, c.if-above-gt0.false)), ap crates c.take_off.ensures)

pub loop-source-preserved : goal.loop-source-preserved
unfolding taken_from
loop-source-preserved c =
    c.loop-source.invariant
    ∙ settle_on (shown c.loop-source.self) c.in-Some.source c.in-Some.above c.in-Some.ensures.value (omega (arith, c.if-above-gt0.false))
    ∙ ap settle (sym c.take_off.ensures)
