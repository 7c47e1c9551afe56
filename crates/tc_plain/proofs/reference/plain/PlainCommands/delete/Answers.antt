use Rattle.std.proofs.Common.{◌≡◌, refl, sym, ◌∙◌, ap, subst}
use Rattle.tc_plain.specs.EvictionState.{EvictionState, advanced, held}
use Rattle.tc_plain.specs.Placing.{without_key}
use Rattle.tc_plain.specs.UserCache.{UserCache, advance}
use Rattle.tc_plain.specs.Doing.{with_live, deleted}
use Rattle.tc_plain.specs.AreaLists.{areas_of, live_of}
use Rattle.tc_plain.specs.Soundness.{IsSound}
use Rattle.tc_plain.proofs.Sound.{sound_kept}
use Rattle.tc_plain.proofs.Stays.{sound_advance, sound_with}
use Rattle.tc_plain.proofs.Planning.{deleted_leaves}
use Rattle.tc_plain.proofs.reference.plain.PlainCommands.delete.Goals as goal

pub invariant_of-self : goal.invariant_of-self
invariant_of-self c =
    let i = c.self.inside in
    let k : UserCache = record {
      budget = i.budget;
      largest = i.largest;
      live = live_of i.live;
      last = i.last;
      counters = i.counters;
    } in
    let l : EvictionState = live_of c.advance.new.self in
    let h : IsSound (with_live k l) =
    subst (λ (j : EvictionState). IsSound (with_live k j)) (sym c.advance.ensures.live)
    (sound_advance k c.args.now c.self.invariant) in
    subst (λ a. IsSound (with_live k (record l { areas = a }))) (sym c.take.ensures.areas)
    (sound_with (with_live k l) (record l { areas = without_key c.as_bytes.result.now l.areas }) h refl refl
    (sound_kept l.limits l.areas _ h.areas))

pub returns-clause-state : goal.returns-clause-state
returns-clause-state c =
    let i = c.self.inside in
    let k : UserCache = record {
      budget = i.budget;
      largest = i.largest;
      live = live_of i.live;
      last = i.last;
      counters = i.counters;
    } in
    let l : EvictionState = live_of c.advance.new.self in
    let key = c.args.key.now in
    subst
    (λ (s : UserCache). with_live k (record l { areas = areas_of c.take.new.self })
    ≡ (deleted key (held key (advanced s.live c.args.now).areas) (advance s c.args.now)).1) c.self.view_is
    (
    ap (λ a. with_live k (record l { areas = a }))
    (c.take.ensures.areas ∙ ap (λ q. without_key q l.areas) c.as_bytes.ensures.bytes)
    ∙ ap (λ (j : EvictionState). with_live k (record j { areas = without_key key j.areas })) c.advance.ensures.live
    ∙ sym (deleted_leaves key (advance k c.args.now))
    )
