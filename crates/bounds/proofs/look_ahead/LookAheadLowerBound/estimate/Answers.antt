use Rattle.std.proofs.Common.{arith, rules}
use Rattle.bay.specs.Shown.{shown}
use Rattle.bay.proofs.Bays.{work_sound}
use Rattle.model.proofs.LookAhead.{few_crates}
use Rattle.bounds.proofs.Looking.{few_above, fewer, above_fits, above_length, looked, looked_all}
use Rattle.bounds.proofs.look_ahead.LookAheadLowerBound.estimate.Goals as goal

pub loop-s-init : goal.loop-s-init
loop-s-init c = (omega arith, omega (arith, few_crates (shown c.args.bay.now) (work_sound c.args.bay.now)))

pub overflow_sub-start : goal.overflow_sub-start
overflow_sub-start c = above_fits (shown c.loop-s.copy) c.in-Some.s c.in-Some.above c.in-Some.ensures.value c.slots-slots.result.now c.slots-slots.ensures c.from.result c.from.ensures

pub weigh-count-requires : goal.weigh-count-requires
weigh-count-requires c =
    let few = few_above (shown c.loop-s.copy) c.in-Some.s c.in-Some.above c.in-Some.ensures.value (work_sound c.loop-s.copy) in
    omega (arith, above_length (shown c.loop-s.copy) c.in-Some.s c.in-Some.above c.in-Some.ensures.value c.slots-slots.result.now c.slots-slots.ensures c.from.result c.from.ensures)

pub overflow_add-above : goal.overflow_add-above
overflow_add-above c = let few = few_above (shown c.loop-s.copy) c.in-Some.s c.in-Some.above c.in-Some.ensures.value (work_sound c.loop-s.copy) in search rules

pub loop-s-smaller : goal.loop-s-smaller
loop-s-smaller c = omega (arith, fewer (shown c.loop-s.copy) c.in-Some.s c.in-Some.above c.in-Some.ensures.value (shown c.take_off.new.self) c.take_off.ensures)

pub loop-s-preserved : goal.loop-s-preserved
loop-s-preserved c =
    let more = looked (shown c.loop-s.copy) c.in-Some.s c.in-Some.above c.in-Some.ensures.value c.slots-slots.result.now c.slots-slots.ensures c.from.result c.from.ensures c.weigh-count.result (shown c.take_off.new.self) c.weigh-count.ensures.value c.take_off.ensures in
    let less = fewer (shown c.loop-s.copy) c.in-Some.s c.in-Some.above c.in-Some.ensures.value (shown c.take_off.new.self) c.take_off.ensures in
    let long = above_length (shown c.loop-s.copy) c.in-Some.s c.in-Some.above c.in-Some.ensures.value c.slots-slots.result.now c.slots-slots.ensures c.from.result c.from.ensures in
    (omega (arith, c.loop-s.invariant.0), omega (arith, c.loop-s.invariant.1, c.weigh-count.ensures.small))

pub returns : goal.returns
returns c = let none = looked_all (shown c.loop-s.copy) c.in_default.ensures.value in omega (arith, c.loop-s.invariant.0)
