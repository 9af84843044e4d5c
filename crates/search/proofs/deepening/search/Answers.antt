use Rattle.std.proofs.Common.{refl, arith}
use Rattle.search.proofs.Limits.{nothing_left, first_limit, plan_fits, ends_found, ends_spent, ends_over, below, goes_on}
use Rattle.search.proofs.deepening.search.Goals as goal

pub returns-in_default : goal.returns-in_default
returns-in_default g c =
    let a = nothing_left (g.met.B.LowerBound.honest c.args.bound.now) {w = c.args.bay.now} c.settle.new.self c.settle.ensures.after c.in_default.ensures.value c.clear.ensures in
    record { value = a.value; plan = refl; promise = a.promise }

pub loop-space-init : goal.loop-space-init
loop-space-init g c =
    record { rising = first_limit (g.met.B.LowerBound.honest c.args.bound.now) c.settle.ensures.after c.estimate-limit.ensures; empty = c.clear.ensures }

pub keep_plan-requires : goal.keep_plan-requires
keep_plan-requires g c =
    plan_fits c.loop-space.invariant.rising c.round-ended.result c.round-ended.new.frames c.round-ended.ensures.meaning c.round-ended.ensures.within c.in-Found.is

pub returns-in-Found : goal.returns-in-Found
returns-in-Found g c =
    let a =
    ends_found c.loop-space.invariant.rising c.round-ended.result c.round-ended.new.frames c.round-ended.ensures.meaning c.round-ended.ensures.within c.in-Found.is
    c.keep_plan.ensures.count c.keep_plan.ensures.plan in
    record { value = a.value; plan = refl; promise = a.promise }

pub returns-in-Spent : goal.returns-in-Spent
returns-in-Spent g c =
    let a = ends_spent c.loop-space.invariant.rising c.round-ended.result c.round-ended.new.frames c.round-ended.ensures.meaning c.round-ended.ensures.within c.in-Spent.is in
    record { value = a.value; plan = c.loop-space.invariant.empty; promise = a.promise }

pub returns-in-Over : goal.returns-in-Over
returns-in-Over g c =
    let a = ends_over c.loop-space.invariant.rising c.round-ended.result c.round-ended.new.frames c.round-ended.ensures.meaning c.round-ended.ensures.within c.in-Over.is in
    record { value = a.value; plan = c.loop-space.invariant.empty; promise = a.promise }

pub loop-space-smaller : goal.loop-space-smaller
loop-space-smaller g c =
    omega
    (arith, below c.loop-space.invariant.rising c.round-ended.result c.round-ended.new.frames c.round-ended.ensures.meaning c.round-ended.ensures.within c.in-Cut.is)

pub loop-space-preserved : goal.loop-space-preserved
loop-space-preserved g c =
    record {
      rising = goes_on c.loop-space.invariant.rising c.round-ended.result c.round-ended.new.frames c.round-ended.ensures.meaning c.round-ended.ensures.within c.in-Cut.is;
      empty = c.loop-space.invariant.empty;
    }
