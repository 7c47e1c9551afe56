use Rattle.std.proofs.Common.{◌≡◌, ◌≤◌, ap, subst, length, arith, ◌∙◌}
use Rattle.std.proofs.lemmas.Result.{IfOk-weaker}
use Rattle.tc_model.specs.Areas.{Limits}
use Rattle.tc_item.specs.Weight.{weight_of}
use Rattle.tc_plain.specs.EvictionState.{limits_of, at_moment}
use Rattle.tc_plain.specs.UserCache.{UserCache}
use Rattle.tc_plain.specs.AreaLists.{live_of}
use Rattle.tc_plain.proofs.Used.{held_key}
use Rattle.tc_plain.proofs.reference.plain.Plain.plan_count.Goals as goal

pub returns-in-Some-clause-light : goal.returns-in-Some-clause-light
returns-in-Some-clause-light c =
    let i = c.self.inside in
    let e = c.in-Some.entry.now in
    let key : length e.key ≡ length c.args.key.now =
    ap length (held_key c.as_bytes.result.now (at_moment c.later-moment.result (live_of i.live)).areas e c.in-Some.ensures
    ∙ c.as_bytes.ensures.bytes) in
    let main : i.live.limits.main ≡ (limits_of i.budget).main = ap (λ (t : Limits). t.main) c.self.invariant.limits in
    let small : weight_of e.key 20 ≤ i.live.limits.main =
    omega (arith, key, main, c.as_bytes.ensures.short, c.self.invariant.least_budget) in
    IfOk-weaker c.plan_count.result _ _
    (λ plan h. h c.args.self.now.live.limits
    (subst (λ (s : UserCache). weight_of e.key 20 ≤ s.live.limits.main) c.self.view_is small)) c.plan_count.ensures.light
