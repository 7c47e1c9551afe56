use Rattle.std.proofs.Common.{◌≡◌, sym, ◌∙◌, ap, subst, arith}
use Rattle.tc_model.specs.Areas.{total}
use Rattle.tc_plain.specs.Entries.{weight}
use Rattle.tc_plain.specs.EvictionState.{EvictionState, advanced, held}
use Rattle.tc_plain.specs.UserCache.{UserCache, advance}
use Rattle.tc_plain.specs.Doing.{with_live}
use Rattle.tc_plain.specs.AreaLists.{live_of, areas_of}
use Rattle.tc_plain.specs.Soundness.{IsSound}
use Rattle.tc_plain.proofs.Stays.{sound_advance, sound_touched}
use Rattle.tc_plain.proofs.Planning.{weighs_little, touched_leaves}
use Rattle.tc_plain.proofs.reference.plain.PlainCommands.touch.Goals as goal

pub look-requires-clause-weight : goal.look-requires-clause-weight
look-requires-clause-weight c =
    let i = c.self.inside in
    let k : UserCache = record {
      budget = i.budget;
      largest = i.largest;
      live = live_of i.live;
      last = i.last;
      counters = i.counters;
    } in
    let come = c.advance.ensures.live ∙ ap (λ a. advanced (record k.live { areas = a }) c.args.now) c.make_room.ensures.areas in
    let same : total weight (areas_of c.advance.new.self.areas) ≡ total weight (advance k c.args.now).live.areas =
    ap (λ (l : EvictionState). total weight l.areas) come in
    omega (arith, same, weighs_little (advance k c.args.now) (sound_advance k c.args.now c.self.invariant))

pub invariant_of-self-2 : goal.invariant_of-self-2
invariant_of-self-2 c =
    let i = c.self.inside in
    let k : UserCache = record {
      budget = i.budget;
      largest = i.largest;
      live = live_of i.live;
      last = i.last;
      counters = i.counters;
    } in
    let come = c.advance.ensures.live ∙ ap (λ a. advanced (record k.live { areas = a }) c.args.now) c.make_room.ensures.areas in
    let j : UserCache = with_live k (live_of c.advance.new.self) in
    let h : IsSound j =
    subst (λ (l : EvictionState). IsSound (with_live k l)) (sym come) (sound_advance k c.args.now c.self.invariant) in
    let key = c.as_bytes.result.now in
    subst IsSound (touched_leaves c.args.due key (held key j.live.areas) j ∙ ap (with_live j) (sym c.look.ensures.live))
    (sound_touched c.args.due key j h)
