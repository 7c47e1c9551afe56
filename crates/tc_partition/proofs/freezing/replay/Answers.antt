use Rattle.std.specs.Prelude.{map}
use Rattle.std.proofs.Common.{◌≡◌, ◌+◌, suc, take, arith, ap, sym, ◌∙◌, subst}
use Rattle.tc_plain.specs.EvictionState.{EvictionState, advanced}
use Rattle.tc_plain.specs.Soundness.{AreSound}
use Rattle.tc_plain.specs.AreaLists.{live_of}
use Rattle.tc_partition.specs.Deferred.{replay, replay_one}
use Rattle.tc_partition.specs.WaitingSlots.{waiting_of, lazy_over}
use Rattle.tc_partition.proofs.Frozen.{part_done, light_by, replay_more, all_replayed}
use Rattle.tc_partition.proofs.freezing.replay.Goals as goal

pub replay_at-requires-clause-sound : goal.replay_at-requires-clause-sound
replay_at-requires-clause-sound c =
    let p = part_done (lazy_over (live_of c.args.live.now) c.args.slots.now.slots c.args.waiting.now c.args.moment)
    c.loop-place.place c.requires.lazy in
    subst (λ (l : EvictionState). AreSound l.limits l.areas) (sym c.loop-place.invariant.live) p.sound

pub replay_at-requires-clause-light : goal.replay_at-requires-clause-light
replay_at-requires-clause-light c =
    let p = part_done (lazy_over (live_of c.args.live.now) c.args.slots.now.slots c.args.waiting.now c.args.moment)
    c.loop-place.place c.requires.lazy in
    light_by _ _ (ap (λ (l : EvictionState). l.limits) c.loop-place.invariant.live ∙ p.limits) c.requires.light

pub loop-place-preserved : goal.loop-place-preserved
loop-place-preserved c =
    let base = live_of c.args.live.now in
    let slots = c.args.slots.now.slots in
    let rs = c.args.waiting.now in
    let one : suc c.loop-place.place ≡ c.loop-place.place + 1 = omega arith in
    record {
      live =
          replay_more (waiting_of slots) base (live_of c.replay_at.new.live) rs c.loop-place.place
          (omega (arith, c.loop-place-test.true, c.len-place-end.ensures.count)) (λ r e.
          c.replay_at.ensures.live r e
          ∙ ap (λ (l : EvictionState). replay_one l (waiting_of slots r)) c.loop-place.invariant.live)
          ∙ ap (λ n. replay base (take n (map (waiting_of slots) rs))) one;
      room = c.replay_at.ensures.room;
    }

pub returns : goal.returns
returns c =
    let all = all_replayed (live_of c.args.live.now) (live_of c.loop-place.live) c.args.slots.now.slots c.args.waiting.now
    c.loop-place.place (omega (arith, c.loop-place-test.false, c.len-place-end.ensures.count)) c.loop-place.invariant.live in
    c.advance.ensures.live ∙ ap (λ (l : EvictionState). advanced l c.args.moment) all
