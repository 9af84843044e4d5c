use Rattle.std.proofs.Common.{◌≡◌, ◌-◌, map, take, length, get_or, sym, ap, ◌∙◌, inl, inr, arith}
use Rattle.std.proofs.lemmas.List.{length-map, length-take-le}
use Rattle.bay.specs.Slots.{slot_shown}
use Rattle.bay.proofs.Slots.{slot_is, no_slot_lem}
use Rattle.bay.proofs.stack.Stack.slot.Goals as goal
use Rattle.bay.proofs.stack.Stack.slot.Goals.{then-tier-eq0-via-then-tier-eq0, then-tier-eq0-via-else-tier-eq0+then-tier-self}

pub returns-then-tier-eq0 : goal.returns-then-tier-eq0
returns-then-tier-eq0 c =
    let w = c.args.self.now in
    let items = map slot_shown (take w.height w.slots) in
    let high : length items ≡ w.height = length-map (take w.height w.slots) slot_shown ∙ length-take-le w.height w.slots (omega (arith, w.tall, w.whole)) in
    elim c.then-tier-eq0.branch [
      | then-tier-eq0-via-then-tier-eq0 v ↦ c.empty.ensures ∙ sym (no_slot_lem items c.args.tier (inl v.if-tier-eq0.true))
      | then-tier-eq0-via-else-tier-eq0+then-tier-self v ↦ c.empty.ensures ∙ sym (no_slot_lem items c.args.tier (inr (omega (arith, high, v.if-tier-self.true))))
    ]

pub returns : goal.returns
returns c =
    let w = c.args.self.now in
    let d = c.index-self-from.result in
    ap (λ i. slot_shown (get_or w.slots (i - 1) d)) c.from.ensures
    ∙ slot_is w.height c.args.tier d w.slots (omega (arith, w.tall, w.whole)) c.if-tier-eq0.false c.if-tier-self.false
