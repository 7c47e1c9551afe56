use Rattle.std.proofs.Common.{◌≡◌, refl, sym, ◌∙◌, ap, subst, arith}
use Rattle.tc_model.specs.Areas.{Limits, total}
use Rattle.tc_plain.specs.Entries.{weight}
use Rattle.tc_plain.specs.EvictionState.{EvictionState, advanced}
use Rattle.tc_plain.specs.UserCache.{UserCache, advance}
use Rattle.tc_plain.specs.AreaLists.{live_of, areas_of}
use Rattle.tc_plain.specs.Plans.{IsLightPlan}
use Rattle.tc_plain.specs.Soundness.{IsSound}
use Rattle.tc_plain.proofs.Advances.{limits-at_moment}
use Rattle.tc_plain.proofs.Stays.{sound_advance}
use Rattle.tc_plain.proofs.Planning.{sound_planned, weighs_little}
use Rattle.tc_plain.proofs.reference.plain.Plain.change.Goals as goal

pub carry_out-requires-clause-weight : goal.carry_out-requires-clause-weight
carry_out-requires-clause-weight c =
    let i = c.self.inside in
    let k : UserCache = record {
      budget = i.budget;
      largest = i.largest;
      live = live_of i.live;
      last = i.last;
      counters = i.counters;
    } in
    let come = c.advance.ensures.live ∙ ap (λ a. advanced (record k.live { areas = a }) c.args.now) c.make_room.ensures.areas in
    let same : total weight (areas_of c.advance.new.self.areas) ≡ total weight (advance k c.args.now).live.areas =
    ap (λ (l : EvictionState). total weight l.areas) come in
    omega (arith, same, weighs_little (advance k c.args.now) (sound_advance k c.args.now c.self.invariant))

pub carry_out-requires-clause-room : goal.carry_out-requires-clause-room
carry_out-requires-clause-room c = c.advance.ensures.room 1 c.in_ok-make_room.ensures.room

pub invariant_of-self-2 : goal.invariant_of-self-2
invariant_of-self-2 c =
    let i = c.self.inside in
    let k : UserCache = record {
      budget = i.budget;
      largest = i.largest;
      live = live_of i.live;
      last = i.last;
      counters = i.counters;
    } in
    let come = c.advance.ensures.live ∙ ap (λ a. advanced (record k.live { areas = a }) c.args.now) c.make_room.ensures.areas in
    let limits : (advance k c.args.now).live.limits ≡ c.args.self.now.live.limits =
    limits-at_moment _ k.live ∙ ap (λ (s : UserCache). s.live.limits) c.self.view_is in
    subst IsSound (c.carry_out.ensures.state (advance k c.args.now) (sym come) refl refl)
    (sound_planned (advance k c.args.now) c.args.plan (subst (λ (l : Limits). IsLightPlan l c.args.plan) (sym limits) c.requires)
    (sound_advance k c.args.now c.self.invariant))
