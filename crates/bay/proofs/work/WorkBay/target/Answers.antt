use Rattle.std.proofs.Common.{sym, subst}
use Rattle.model.specs.Targets.{TargetMeans}
use Rattle.model.proofs.Targets.{target_means}
use Rattle.bay.specs.Shown.{shown}
use Rattle.bay.specs.Target.{best_shown}
use Rattle.bay.proofs.Scanning.{scanned, answer_some, answer_none}
use Rattle.bay.proofs.work.WorkBay.target.Goals as goal

pub returns-then-best-lt-UNCALLED : goal.returns-then-best-lt-UNCALLED
returns-then-best-lt-UNCALLED c =
    let b = shown c.args.self.now in
    let best = best_shown c.loop-row.best in
    let is = answer_some b best (scanned b c.stacks-stack-items.result.now c.loop-row.row best c.stacks-stack-items.ensures.value c.loop-row.invariant c.loop-row-test.false) c.if-best-lt-UNCALLED.true in
    record { value = is; means = subst (TargetMeans b) (sym is) (target_means b) }

pub returns-else-best-lt-UNCALLED : goal.returns-else-best-lt-UNCALLED
returns-else-best-lt-UNCALLED c =
    let b = shown c.args.self.now in
    let best = best_shown c.loop-row.best in
    let is = answer_none b best (scanned b c.stacks-stack-items.result.now c.loop-row.row best c.stacks-stack-items.ensures.value c.loop-row.invariant c.loop-row-test.false) c.if-best-lt-UNCALLED.false in
    record { value = is; means = subst (TargetMeans b) (sym is) (target_means b) }
