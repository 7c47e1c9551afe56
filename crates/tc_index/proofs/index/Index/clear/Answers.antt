use Rattle.std.specs.Vec.{with_items}
use Rattle.std.proofs.Common.{◌≡◌, ◌<◌, List, length, sym, ◌∙◌, ap, subst, arith}
use Rattle.std.proofs.lemmas.List.{with_items_is, get_or_default}
use Rattle.tc_index.specs.Tags.{TaggedShard, Tagged, shard_at, no_shard}
use Rattle.tc_index.proofs.Fresh.{IsEmpty, empty_on, room_on, none_stand}
use Rattle.tc_index.proofs.index.Index.clear.Goals as goal

pub loop-shard-preserved : goal.loop-shard-preserved
loop-shard-preserved c =
    let items = c.loop-shard.shard-items in
    let i = c.loop-shard.shard-index in
    let lt : i < length items = omega (arith, c.loop-shard-test.true, c.loop-shard.auto.shard-items) in
    record {
      empty =
          empty_on items i c.clear.new.self lt (record { first = c.clear.ensures.first; more = c.clear.ensures.more })
          c.loop-shard.invariant.empty;
      room = λ n r.
          room_on items i c.clear.new.self lt
          (λ h. c.clear.ensures.room
          (ap (λ (p : TaggedShard). p.has_room) (get_or_default items i c.shard-item.result no_shard lt) ∙ h))
          n (c.loop-shard.invariant.room n r);
    }

pub invariant_of-self : goal.invariant_of-self
invariant_of-self c =
    let old = c.self.inside.shards in
    let items = c.loop-shard.shard-items in
    let value = c.deref_mut-shard-items.ensures.value in
    let long : length items ≡ length old.items = c.loop-shard.auto.shard-items ∙ ap (λ (ps : List TaggedShard). length ps) value in
    let kept : (with_items old items).items ≡ items = with_items_is old items (long ∙ sym old.ok.0) in
    record {
      last = omega (arith, ap (λ (ps : List TaggedShard). length ps) kept, long, c.self.invariant.last);
      few = c.self.invariant.few;
      room = λ n lt ne.
          ap (λ (ps : List TaggedShard). (shard_at ps n).has_room) kept
          ∙ c.loop-shard.invariant.room n (ap (λ (ps : List TaggedShard). (shard_at ps n).has_room) value
          ∙ c.self.invariant.room n (omega (arith, lt, ap (λ (ps : List TaggedShard). length ps) kept, long)) ne);
    }

pub returns-clause-none : goal.returns-clause-none
returns-clause-none c = λ tag slot.
    let old = c.self.inside.shards in
    let items = c.loop-shard.shard-items in
    let value = c.deref_mut-shard-items.ensures.value in
    let long : length items ≡ length old.items = c.loop-shard.auto.shard-items ∙ ap (λ (ps : List TaggedShard). length ps) value in
    let kept : (with_items old items).items ≡ items = with_items_is old items (long ∙ sym old.ok.0) in
    none_stand (with_items old items).items
    (λ n lt. subst (λ ps. IsEmpty (shard_at ps n)) (sym kept) (c.loop-shard.invariant.empty n
    (omega (arith, lt, ap (λ (ps : List TaggedShard). length ps) kept, c.loop-shard.auto.shard-items, c.loop-shard-test.false))))
    _ tag slot

pub returns-clause-room : goal.returns-clause-room
returns-clause-room c = λ h.
    let old = c.self.inside.shards in
    let items = c.loop-shard.shard-items in
    let value = c.deref_mut-shard-items.ensures.value in
    let long : length items ≡ length old.items = c.loop-shard.auto.shard-items ∙ ap (λ (ps : List TaggedShard). length ps) value in
    let kept : (with_items old items).items ≡ items = with_items_is old items (long ∙ sym old.ok.0) in
    ap (λ (ps : List TaggedShard). (shard_at ps c.self.inside.last).has_room) kept
    ∙ c.loop-shard.invariant.room c.self.inside.last
    (ap (λ (ps : List TaggedShard). (shard_at ps c.self.inside.last).has_room) value ∙ ap (λ (t : Tagged). t.has_room) c.self.view_is ∙ h)
