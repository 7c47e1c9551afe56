use Rattle.std.proofs.Common.{arith, ap, ◌∙◌, ◌≡◌}
use Rattle.tc_model.specs.Areas.{total}
use Rattle.tc_sketch.specs.Sketch.{recorded}
use Rattle.tc_plain.specs.Entries.{weight, with_item}
use Rattle.tc_plain.specs.Placing.{without_key}
use Rattle.tc_plain.specs.AreaLists.{areas_of, live_of, change_of, is_from_window}
use Rattle.tc_plain.proofs.Used.{look_misses, look_hits, held_le, without_key_le, live_by, back_by, weight_change}
use Rattle.tc_plain.proofs.reference.eviction_state.EvictionState.look.Goals as goal

pub returns-in_default-clause-live : goal.returns-in_default-clause-live
returns-in_default-clause-live c =
    look_misses (change_of c.args.due) c.args.key.now (live_of c.args.self.now) _ c.in_default.ensures.taken
    (live_by (live_of c.args.self.now) _ _ _ _ c.take.ensures.areas
    (c.record.ensures.recorded ∙ ap (recorded c.args.self.now.sketch) c.hash.ensures))

pub access-requires-clause-weight : goal.access-requires-clause-weight
access-requires-clause-weight c =
    let a = areas_of c.args.self.now.areas in
    let less : total weight (areas_of c.take.new.self) ≡ total weight (without_key c.args.key.now a) =
    ap (total weight) c.take.ensures.areas in
    let same : weight c.with_due.result ≡ weight (with_item c.in-Some.entry (change_of c.args.due c.in-Some.entry.item)) =
    ap weight c.with_due.ensures in
    omega (
      arith,
      less,
      same,
      without_key_le c.args.key.now a,
      weight_change c.args.due c.in-Some.entry,
      held_le c.args.key.now a c.in-Some.entry c.in-Some.ensures.taken.0,
      c.requires.weight,
    )

pub returns-clause-live : goal.returns-clause-live
returns-clause-live c =
    let l = live_of c.args.self.now in
    let e = c.in-Some.entry in
    look_hits (change_of c.args.due) c.args.key.now l _ e (is_from_window c.in-Some.origin) c.in-Some.ensures.taken.0
    c.in-Some.ensures.taken.1
    (c.access.ensures.live
    ∙ back_by l (with_item e (change_of c.args.due e.item)) c.with_due.result
    (areas_of c.take.new.self) c.record.new.self c.args.key.now (is_from_window c.in-Some.origin) c.with_due.ensures
    c.take.ensures.areas
    (c.record.ensures.recorded ∙ ap (recorded c.args.self.now.sketch) c.hash.ensures))
