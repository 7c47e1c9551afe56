use Rattle.std.specs.Prelude.{max, slice_index_or}
use Rattle.std.proofs.Common.{◌≡◌, None, sym, ◌∙◌, ap, subst, arith}
use Rattle.tc_model.specs.Areas.{Limits, total}
use Rattle.tc_plain.specs.Entries.{weight, lives}
use Rattle.tc_plain.specs.EvictionState.{EvictionState, advanced, is_flush_due}
use Rattle.tc_plain.specs.UserCache.{advance}
use Rattle.tc_plain.specs.Plans.{IsLightPlan}
use Rattle.tc_plain.proofs.Advances.{limits-at_moment}
use Rattle.tc_plain.proofs.Stays.{sound_advance}
use Rattle.tc_plain.proofs.Planning.{weighs_little}
use Rattle.tc_partition.specs.LiveSlots.{plan_of}
use Rattle.tc_partition.specs.SlotCaches.{cache_of}
use Rattle.tc_partition.proofs.Aimed.{aimed}
use Rattle.tc_partition.proofs.Limited.{main_small}
use Rattle.tc_partition.proofs.slot_cache.SlotCache.change.Goals as goal

pub carry_out-requires-clause-weight : goal.carry_out-requires-clause-weight
carry_out-requires-clause-weight c =
    let k = cache_of c.args.self.now in
    let come = c.advance.ensures.live ∙ ap (λ (l : EvictionState). advanced l c.args.now) c.make_room.ensures.live in
    let same : total weight c.advance.new.self.held.areas ≡ total weight (advance k c.args.now).live.areas =
    ap (λ (l : EvictionState). total weight l.areas) come in
    omega (arith, same, weighs_little (advance k c.args.now) (sound_advance k c.args.now c.requires.fast))

pub carry_out-requires-clause-light : goal.carry_out-requires-clause-light
carry_out-requires-clause-light c =
    let k = cache_of c.args.self.now in
    let come = c.advance.ensures.live ∙ ap (λ (l : EvictionState). advanced l c.args.now) c.make_room.ensures.live in
    let same = ap (λ (l : EvictionState). l.limits) come ∙ limits-at_moment _ k.live in
    subst (λ (l : Limits). IsLightPlan l (plan_of c.args.work)) (sym same) c.requires.light

pub carry_out-requires-clause-main : goal.carry_out-requires-clause-main
carry_out-requires-clause-main c =
    let k = cache_of c.args.self.now in
    let come = c.advance.ensures.live ∙ ap (λ (l : EvictionState). advanced l c.args.now) c.make_room.ensures.live in
    let same = ap (λ (l : EvictionState). l.limits.main) come in
    omega (arith, same, main_small (advance k c.args.now) (sound_advance k c.args.now c.requires.fast))

pub carry_out-requires-clause-room : goal.carry_out-requires-clause-room
carry_out-requires-clause-room c = λ new. c.advance.ensures.room (c.in_ok-make_room.ensures.room new)

pub carry_out-requires-clause-aimed : goal.carry_out-requires-clause-aimed
carry_out-requires-clause-aimed c =
    let now = c.args.now in
    let come = c.advance.ensures.live ∙ ap (λ (l : EvictionState). advanced l now) c.make_room.ensures.live in
    aimed c.args.self.now.live c.advance.new.self now c.requires.fast.areas come c.owning.ensures c.owning-2.ensures
    (λ n e at quiet alive.
    c.advance.ensures.alive n e (ap (λ xs. slice_index_or xs n None) c.make_room.ensures.slots ∙ at)
    (ap (λ (l : EvictionState). is_flush_due l.flush (max l.moment now)) c.make_room.ensures.live ∙ quiet)
    (ap (λ (l : EvictionState). lives (max l.moment now) e) c.make_room.ensures.live ∙ alive)) c.args.work c.requires.sought
