use Rattle.std.proofs.Common.{sym, ◌∙◌, ap, subst}
use Rattle.tc_plain.specs.EvictionState.{EvictionState, advanced}
use Rattle.tc_plain.specs.UserCache.{UserCache}
use Rattle.tc_plain.specs.Doing.{with_live, all_looked_up}
use Rattle.tc_plain.specs.AreaLists.{live_of, change_of}
use Rattle.tc_plain.specs.Soundness.{IsSound}
use Rattle.tc_plain.proofs.Asked.{change_light}
use Rattle.tc_plain.proofs.Widths.{width-all_looked_up}
use Rattle.tc_plain.proofs.Stays.{sound_advance, sound_looked, sound_with}
use Rattle.tc_plain.proofs.reference.plain.PlainCommands.look.Goals as goal

pub look_all-requires-clause-sound : goal.look_all-requires-clause-sound
look_all-requires-clause-sound c =
    let i = c.self.inside in
    let k : UserCache = record {
      budget = i.budget;
      largest = i.largest;
      live = live_of i.live;
      last = i.last;
      counters = i.counters;
    } in
    let come = c.advance.ensures.live ∙ ap (λ a. advanced (record k.live { areas = a }) c.args.now) c.make_room.ensures.areas in
    let h : IsSound (with_live k (live_of c.advance.new.self)) =
    subst (λ (l : EvictionState). IsSound (with_live k l)) (sym come) (sound_advance k c.args.now c.self.invariant) in
    h.areas

pub invariant_of-self-2 : goal.invariant_of-self-2
invariant_of-self-2 c =
    let i = c.self.inside in
    let k : UserCache = record {
      budget = i.budget;
      largest = i.largest;
      live = live_of i.live;
      last = i.last;
      counters = i.counters;
    } in
    let come = c.advance.ensures.live ∙ ap (λ a. advanced (record k.live { areas = a }) c.args.now) c.make_room.ensures.areas in
    let j : UserCache = with_live k (live_of c.advance.new.self) in
    let h : IsSound j =
    subst (λ (l : EvictionState). IsSound (with_live k l)) (sym come) (sound_advance k c.args.now c.self.invariant) in
    let r = sound_looked (change_of c.args.due) (change_light c.args.due) c.args.keys.now j.live h.areas in
    subst (λ (l : EvictionState). IsSound (with_live j l)) (sym c.look_all.ensures)
    (sound_with j (all_looked_up (change_of c.args.due) c.args.keys.now j.live).1 h r.1
    (width-all_looked_up (change_of c.args.due) c.args.keys.now j.live) r.0)
