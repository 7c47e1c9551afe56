use Rattle.std.proofs.Common.{◌≡◌, ◌≤◌, max, ap, subst, length, arith}
use Rattle.std.proofs.lemmas.Result.{IfOk-weaker}
use Rattle.tc_model.specs.Areas.{Limits}
use Rattle.tc_item.specs.Weight.{weight_of}
use Rattle.tc_plain.specs.EvictionState.{limits_of, at_moment}
use Rattle.tc_plain.specs.Plans.{IsUnder}
use Rattle.tc_plain.proofs.Used.{held_key}
use Rattle.tc_partition.specs.LiveSlots.{live_of}
use Rattle.tc_partition.specs.SlotCaches.{cache_of}
use Rattle.tc_partition.proofs.slot_cache.SlotCache.plan_count.Goals as goal

pub returns-in-Some-clause-light : goal.returns-in-Some-clause-light
returns-in-Some-clause-light c =
    let i = c.args.self.now in
    let e = c.in-Some.entry.now in
    let key : length e.key ≡ length c.args.key.now =
    ap length (held_key c.args.key.now (at_moment (max i.live.moment c.args.now) (live_of i.live)).areas e
    (c.in-Some.ensures _ _ c.requires.place)) in
    let main : i.live.held.limits.main ≡ (limits_of i.budget).main = ap (λ (t : Limits). t.main) c.requires.sound.limits in
    let small : weight_of e.key 20 ≤ i.live.held.limits.main =
    omega (arith, key, main, c.as_bytes-bytes.ensures.short, c.requires.sound.least_budget) in
    IfOk-weaker c.plan_count.result _ _ (λ plan h. h (cache_of i).live.limits small) c.plan_count.ensures.light

pub returns-in-Some-clause-key : goal.returns-in-Some-clause-key
returns-in-Some-clause-key c =
    let i = c.args.self.now in
    let e = c.in-Some.entry.now in
    let own = held_key c.args.key.now (at_moment (max i.live.moment c.args.now) (live_of i.live)).areas e
    (c.in-Some.ensures _ _ c.requires.place) in
    IfOk-weaker c.plan_count.result _ _ (λ plan h. subst (λ k. IsUnder k plan) own h) c.plan_count.ensures.key
