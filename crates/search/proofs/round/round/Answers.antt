use Rattle.std.proofs.Common.{◌≤◌, length, sym, ap, ◌∙◌, arith, rules}
use Rattle.bay.specs.Shown.{shown}
use Rattle.bay.proofs.Bays.{work_sound}
use Rattle.model.specs.Search.{over}
use Rattle.search.proofs.Standing.{Tried, begun, skipped, used_up, held_back, planned, deeper, back, through}
use Rattle.search.proofs.Trying.{tried_is, estimate_small}
use Rattle.search.proofs.round.round.Given.{Over}
use Rattle.search.proofs.round.round.Goals as goal
use Rattle.search.proofs.round.round.Goals.{After-settle-target}

tried : (g : Over) (c : After-settle-target g) → Tried c.args.budget c.destination.at c.destination.to c.destination.tries c.settle-target.new.self
tried g c =
    let way = sym c.if-not-is_open.ensures in
    record {
      there = omega arith;
      way = way;
      left = c.if-tries-budget.false;
      after =
          tried_is c.destination.at.bay c.destination.to c.destination.invariant.stands.fit.aims way c.carry.ensures.says c.carry.ensures.after
          c.settle-target.ensures.after;
    }

pub depth-init : goal.depth-init
depth-init g c = begun c.args.start.now c.args.source c.args.tries c.clear.ensures c.requires.aims c.requires.left

pub overflow_add-to-end : goal.overflow_add-to-end
overflow_add-to-end g c =
    let few : length (shown c.depth.at.bay) ≤ 12 = (work_sound c.depth.at.bay).few in
    search rules

pub destination-preserved-then-not-is_open : goal.destination-preserved-then-not-is_open
destination-preserved-then-not-is_open g c =
    record {
      stands = skipped c.destination.invariant.stands (omega arith) (sym c.if-not-is_open.ensures);
      last = c.destination.invariant.last;
      level = c.destination.invariant.level;
      more = c.destination.invariant.more;
    }

pub returns-then-tries-budget-clause-meaning : goal.returns-then-tries-budget-clause-meaning
returns-then-tries-budget-clause-meaning g c =
    sym (used_up c.destination.invariant.stands (omega arith) (sym c.if-not-is_open.ensures) c.if-tries-budget.true)

pub overflow_add-len-in-destination : goal.overflow_add-len-in-destination
overflow_add-len-in-destination g c =
    let small = estimate_small (g.B.LowerBound.value c.args.bound.now) (g.met.B.LowerBound.honest c.args.bound.now) c.settle-target.new.self c.estimate.result c.estimate.ensures in
    search rules

pub destination-preserved : goal.destination-preserved
destination-preserved g c =
    record {
      stands = held_back c.destination.invariant.stands (tried g (goal.at.destination-preserved g c).After-settle-target) (omega arith);
      last = c.destination.invariant.last;
      level = c.destination.invariant.level;
      more = omega arith;
    }

pub returns-in_default-clause-meaning : goal.returns-in_default-clause-meaning
returns-in_default-clause-meaning g c =
    sym
    (planned c.destination.invariant.stands (tried g (goal.at.returns-in_default-clause-meaning g c).After-settle-target) c.push.ensures (omega arith)
    c.in_default.ensures.value)

pub depth-preserved-in-destination : goal.depth-preserved-in-destination
depth-preserved-in-destination g c =
    deeper c.destination.invariant.stands (tried g (goal.at.depth-preserved-in-destination g c).After-settle-target) c.push.ensures (omega arith)
    (record { above = c.in-Some.field-0-1; is = sym c.in-Some.ensures.value })

pub returns-then-cut-clause-meaning : goal.returns-then-cut-clause-meaning
returns-then-cut-clause-meaning g c =
    ap (λ z. over z c.destination.tries) (sym c.if-cut.true) ∙ sym (through c.destination.invariant.stands c.in_default-pop.ensures.0 (omega arith))

pub returns-else-cut-clause-meaning : goal.returns-else-cut-clause-meaning
returns-else-cut-clause-meaning g c =
    ap (λ z. over z c.destination.tries) (sym c.if-cut.false) ∙ sym (through c.destination.invariant.stands c.in_default-pop.ensures.0 (omega arith))

pub overflow_add-at : goal.overflow_add-at
overflow_add-at g c =
    let high = (back c.destination.invariant.stands c.in-Some-pop.frame c.pop.new.self c.in-Some-pop.ensures (omega arith)).0 in
    search rules

pub depth-preserved : goal.depth-preserved
depth-preserved g c = (back c.destination.invariant.stands c.in-Some-pop.frame c.pop.new.self c.in-Some-pop.ensures (omega arith)).1
