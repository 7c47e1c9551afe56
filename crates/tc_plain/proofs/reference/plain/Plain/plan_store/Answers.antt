use Rattle.std.proofs.Common.{◌≡◌, ◌+◌, refl, sym, ◌∙◌, ap, subst}
use Rattle.std.proofs.lemmas.Result.{IfOk-weaker}
use Rattle.tc_model.specs.Areas.{Limits}
use Rattle.tc_plain.specs.UserCache.{UserCache, advance}
use Rattle.tc_plain.specs.Storing.{accepted, stored}
use Rattle.tc_plain.specs.AreaLists.{live_of}
use Rattle.tc_plain.specs.Plans.{outcome_of, offer_of, planned}
use Rattle.tc_plain.proofs.Advances.{limits-at_moment}
use Rattle.tc_plain.proofs.Planning.{stored_by}
use Rattle.tc_plain.proofs.reference.plain.Plain.plan_store.Goals as goal

pub returns-in-Refused-clause-plan : goal.returns-in-Refused-clause-plan
returns-in-Refused-clause-plan c =
    let now = c.args.now in
    let head = c.args.head.now in
    let i = c.self.inside in
    let k : UserCache = record {
      budget = i.budget;
      largest = i.largest;
      live = live_of i.live;
      last = i.last;
      counters = i.counters;
    } in
    subst (λ (s : UserCache). (outcome_of c.in-Refused.end, advance s now) ≡ stored (advance s now) head c.args.blob.now)
    c.self.view_is (
    ap (λ b. accepted (advance k now) head.key (offer_of (k.last + 1) b)) (sym c.in-Refused.is)
    ∙ stored_by k now c.later-moment.result head c.args.blob.now c.as_bytes.result.now c.in_ok-end.field-0 c.peek-held.result
    c.later-moment.ensures c.as_bytes.ensures.bytes c.peek-held.ensures c.in_ok-end.ensures
    )

pub returns-in-Offered-clause-plan : goal.returns-in-Offered-clause-plan
returns-in-Offered-clause-plan c =
    let now = c.args.now in
    let head = c.args.head.now in
    let i = c.self.inside in
    let k : UserCache = record {
      budget = i.budget;
      largest = i.largest;
      live = live_of i.live;
      last = i.last;
      counters = i.counters;
    } in
    let main = ap (λ (l : Limits). l.main) (limits-at_moment _ k.live) in
    IfOk-weaker c.plan_item.result _ _ (λ plan h.
    subst (λ (s : UserCache). planned (advance s now) plan ≡ stored (advance s now) head c.args.blob.now) c.self.view_is (
    h (advance k now) refl (main ∙ sym c.main_limit.ensures)
    ∙ ap (λ b. accepted (advance k now) head.key (offer_of (k.last + 1) b)) (sym c.in-Offered.is)
    ∙ stored_by k now c.later-moment.result head c.args.blob.now c.as_bytes.result.now c.in_ok-end.field-0 c.peek-held.result
    c.later-moment.ensures c.as_bytes.ensures.bytes c.peek-held.ensures c.in_ok-end.ensures
    )) c.plan_item.ensures.plan
