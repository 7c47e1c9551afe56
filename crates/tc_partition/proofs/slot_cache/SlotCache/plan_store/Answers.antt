use Rattle.std.proofs.Common.{◌+◌, refl, sym, ◌∙◌, ap, subst}
use Rattle.std.proofs.lemmas.Result.{IfOk-weaker}
use Rattle.tc_model.specs.Areas.{Limits}
use Rattle.tc_plain.specs.UserCache.{advance}
use Rattle.tc_plain.specs.Storing.{accepted}
use Rattle.tc_plain.specs.Plans.{offer_of}
use Rattle.tc_plain.proofs.Advances.{limits-at_moment}
use Rattle.tc_plain.proofs.Planning.{stored_by}
use Rattle.tc_partition.specs.SlotCaches.{cache_of}
use Rattle.tc_partition.specs.WaitingSlots.{SeeksSlot}
use Rattle.tc_partition.proofs.slot_cache.SlotCache.plan_store.Goals as goal

pub returns-in-Refused-clause-plan : goal.returns-in-Refused-clause-plan
returns-in-Refused-clause-plan c =
    let now = c.args.now in
    let head = c.args.head.now in
    let k = cache_of c.args.self.now in
    ap (λ b. accepted (advance k now) head.key (offer_of (k.last + 1) b)) (sym c.in-Refused.is)
    ∙ stored_by k now c.later-moment.result head c.args.blob.now head.key c.in_ok-end.field-0 c.held_at-held.result
    c.later-moment.ensures refl
    (c.held_at-held.ensures _ _
    (subst (λ t. SeeksSlot c.args.place t head.key c.args.self.now.live) (sym c.later-moment.ensures) c.requires.place))
    c.in_ok-end.ensures

pub returns-in-Offered-clause-plan : goal.returns-in-Offered-clause-plan
returns-in-Offered-clause-plan c =
    let now = c.args.now in
    let head = c.args.head.now in
    let k = cache_of c.args.self.now in
    let main = ap (λ (l : Limits). l.main) (limits-at_moment _ k.live) ∙ sym c.heaviest-main.ensures in
    IfOk-weaker c.plan_item.result _ _ (λ plan h.
    h (advance k now) refl main
    ∙ ap (λ b. accepted (advance k now) head.key (offer_of (k.last + 1) b)) (sym c.in-Offered.is)
    ∙ stored_by k now c.later-moment.result head c.args.blob.now head.key c.in_ok-end.field-0 c.held_at-held.result
    c.later-moment.ensures refl
    (c.held_at-held.ensures _ _
    (subst (λ t. SeeksSlot c.args.place t head.key c.args.self.now.live) (sym c.later-moment.ensures) c.requires.place))
    c.in_ok-end.ensures
    ) c.plan_item.ensures.plan

pub returns-in-Offered-clause-light : goal.returns-in-Offered-clause-light
returns-in-Offered-clause-light c =
    IfOk-weaker c.plan_item.result _ _ (λ plan h. h (cache_of c.args.self.now).live.limits (sym c.heaviest-main.ensures))
    c.plan_item.ensures.light
