use Rattle.std.proofs.Common.{◌≡◌, true, arith, ap, sym, ◌∙◌}
use Rattle.tc_model.proofs.Steps.{areas_by}
use Rattle.tc_plain.specs.EvictionState.{held}
use Rattle.tc_model.specs.Areas.{total}
use Rattle.tc_item.specs.KeyHash.{hash}
use Rattle.tc_sketch.specs.Sketch.{recorded}
use Rattle.tc_plain.specs.Entries.{weight}
use Rattle.tc_plain.specs.Placing.{without_key, at_front}
use Rattle.tc_plain.specs.AreaLists.{areas_of, live_of}
use Rattle.tc_plain.proofs.Used.{without_key_le, used_front, live_by}
use Rattle.tc_plain.proofs.reference.eviction_state.EvictionState.use_new.Goals as goal

pub access-requires-clause-weight : goal.access-requires-clause-weight
access-requires-clause-weight c =
    let a = areas_of c.args.self.now.areas in
    let less : total weight (areas_of c.take.new.self) ≡ total weight (without_key c.as_bytes.result.now a) =
    ap (total weight) c.take.ensures.areas in
    omega (arith, less, without_key_le c.as_bytes.result.now a, c.requires.weight)

pub put_first-requires : goal.put_first-requires
put_first-requires c = let r = c.in-None.ensures.room 1 c.requires.room in omega (arith, r.window_room)

pub returns-in-None-clause-live : goal.returns-in-None-clause-live
returns-in-None-clause-live c =
    let l = live_of c.args.self.now in
    let x = c.args.entry in
    let key = c.as_bytes.ensures.bytes in
    let areas = c.in-None.ensures.areas ∙ ap (λ k. without_key k l.areas) key in
    live_by l _ (at_front x (without_key x.key l.areas)) _ (recorded l.sketch (hash x.key))
    (ap (λ w. areas_by w c.take.new.self.probation.items c.take.new.self.protected.items) c.put_first.ensures.items
    ∙ ap (at_front x) areas)
    (c.record.ensures.recorded ∙ ap (recorded l.sketch) c.fnv_hash.ensures)
    ∙ sym (used_front l x true (ap (λ k. held k l.areas) (sym key) ∙ c.in-None.ensures.taken) (sym c.if-alive.ensures))

pub returns-in-None-clause-room : goal.returns-in-None-clause-room
returns-in-None-clause-room c =
    let r = c.in-None.ensures.room 1 c.requires.room in
    record {
      window_room = omega (arith, r.window_room, c.put_first.ensures.len, c.put_first.ensures.capacity);
      probation_room = omega (arith, r.probation_room, c.put_first.ensures.len);
      protected_room = omega (arith, r.protected_room, c.put_first.ensures.len);
    }
