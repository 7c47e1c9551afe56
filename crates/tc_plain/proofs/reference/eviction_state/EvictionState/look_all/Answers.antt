use Rattle.std.proofs.Common.{◌≡◌, take, get_or, arith, ap, sym, ◌∙◌}
use Rattle.tc_model.specs.Areas.{total}
use Rattle.tc_plain.specs.Entries.{weight}
use Rattle.tc_plain.specs.EvictionState.{EvictionState, held}
use Rattle.tc_plain.specs.Doing.{all_looked_up, looked_up}
use Rattle.tc_plain.specs.AreaLists.{live_of, change_of}
use Rattle.tc_plain.proofs.Asked.{live-take_more, change_light}
use Rattle.tc_plain.proofs.Stays.{sound_looked}
use Rattle.tc_plain.proofs.reference.eviction_state.EvictionState.look_all.Goals as goal

pub look-requires-clause-weight : goal.look-requires-clause-weight
look-requires-clause-weight c =
    let l = live_of c.args.self.now in
    let keys = take c.loop-key.key-index c.args.keys.now in
    let s = (sound_looked (change_of c.args.due) (change_light c.args.due) keys l c.requires.sound).0 in
    let same : total weight (live_of c.loop-key.self).areas
    ≡ total weight (all_looked_up (change_of c.args.due) keys l).1.areas =
    ap (λ (j : EvictionState). total weight j.areas) c.loop-key.invariant.live in
    let main = s.within.main in
    omega (arith, same, s.within.window, main, c.requires.light)

pub loop-key-preserved : goal.loop-key-preserved
loop-key-preserved c =
    let change = change_of c.args.due in
    let l = live_of c.args.self.now in
    let cur = live_of c.loop-key.self in
    let keys = c.args.keys.now in
    let i = c.loop-key.key-index in
    let key = c.key-item.result in record {
      live =
          c.look.ensures.live ∙ ap (λ k. (looked_up change k (held k cur.areas) cur).1) (c.as_bytes.ensures.bytes ∙ c.key-item.is)
          ∙ ap (λ (j : EvictionState). (looked_up change (get_or keys i key) (held (get_or keys i key) j.areas) j).1)
          c.loop-key.invariant.live
          ∙ sym (live-take_more change keys i key l c.loop-key-test.true);
      room = c.look.ensures.room;
    }
