use Rattle.tc_slots.proofs.Tagged.{stands_held, tagged_vacated}
use Rattle.std.specs.Prelude.{slice_index_or}
use Rattle.std.proofs.Common.{None, ◌<◌, length, sym, ◌∙◌, ap, subst, arith}
use Rattle.slab.specs.Slab.{get as slab_get}
use Rattle.tc_item.specs.Bounds.{moment_limit}
use Rattle.tc_plain.specs.Entries.{lives}
use Rattle.tc_plain.specs.EvictionState.{filtered}
use Rattle.tc_wheel.specs.Dues.{advanced}
use Rattle.tc_plain.specs.Placing.{without_key}
use Rattle.tc_plain.specs.Soundness.{AreSound}
use Rattle.tc_plain.proofs.Sound.{sound_kept}
use Rattle.tc_slots.specs.Held.{Held, AreWithin}
use Rattle.tc_slots.proofs.Kept.{alive_stays, due_one, none_due, slots_expired, slots_expired_areas}
use Rattle.tc_slots.proofs.Moves.{holds_entry, long_cleared, within_vacated, slots_emptied_areas}
use Rattle.tc_slots.proofs.slots.Slots.expire_next.Goals as goal

pub vacate-requires-clause-stands : goal.vacate-requires-clause-stands
vacate-requires-clause-stands c =
    let i = c.self.inside in
    stands_held i.hasher i.index (slab_get i.entries) (slab_get i.entries) c.in-Some.due.0 c.self.invariant.tagged

pub remove-requires : goal.remove-requires
remove-requires c =
    let i = c.self.inside in
    let early : c.args.moment < moment_limit =
    omega (arith, c.seconds-seconds.ensures.seconds, c.seconds-seconds.ensures.bounded) in
    let one = due_one i.index i.entries i.lists i.wheel c.self.invariant.agree c.args.moment early c.in-Some.due.0
    c.in-Some.ensures.0 in
    holds_entry i.index i.entries i.lists i.wheel c.self.invariant.agree one.0 c.in-Some.due c.vacate.new.index
    c.vacate.new.entries one.1

pub invariant_of-self : goal.invariant_of-self
invariant_of-self c =
    let i = c.self.inside in
    let early : c.args.moment < moment_limit =
    omega (arith, c.seconds-seconds.ensures.seconds, c.seconds-seconds.ensures.bounded) in
    let one = due_one i.index i.entries i.lists i.wheel c.self.invariant.agree c.args.moment early c.in-Some.due.0
    c.in-Some.ensures.0 in
    let gone = c.vacate.ensures.gone one.0 one.1 in
    record {
      agree =
          slots_expired i.index i.entries i.lists i.wheel c.self.invariant.agree c.args.moment early one.0
          c.in-Some.due one.1
          one.2 c.vacate.new.index c.vacate.new.entries gone c.remove.new.self
          c.remove.ensures c.advance.new.self
          c.in-Some.ensures.1;
      tagged =
          tagged_vacated i.hasher i.index (slab_get i.entries) (slab_get c.vacate.new.entries) c.in-Some.due.0
          c.self.invariant.tagged c.vacate.new.index one.0 one.1 (c.vacate.ensures.left one.0 one.1) gone.entries;
      within =
          subst (λ n. AreWithin n (slab_get c.vacate.new.entries))
          (sym (long_cleared (advanced c.args.moment i.wheel) c.advance.new.self c.in-Some.due.0 c.in-Some.ensures.1))
          (within_vacated (length i.wheel.dues) c.in-Some.due.0 (slab_get i.entries)
          (slab_get c.vacate.new.entries) gone.entries c.self.invariant.within);
    }

pub returns-in-Some-clause-kept : goal.returns-in-Some-clause-kept
returns-in-Some-clause-kept c =
    let i = c.self.inside in
    let early : c.args.moment < moment_limit =
    omega (arith, c.seconds-seconds.ensures.seconds, c.seconds-seconds.ensures.bounded) in
    let one = due_one i.index i.entries i.lists i.wheel c.self.invariant.agree c.args.moment early c.in-Some.due.0
    c.in-Some.ensures.0 in
    slots_expired_areas i.index i.entries i.lists i.wheel c.self.invariant.agree c.args.moment early one.0
    c.in-Some.due one.1
    one.2 c.vacate.new.index c.vacate.new.entries (c.vacate.ensures.gone one.0 one.1) c.remove.new.self
    c.remove.ensures
    ∙ ap (λ (z : Held). filtered (lives c.args.moment) z.areas) c.self.view_is

pub returns-in-None-clause-none : goal.returns-in-None-clause-none
returns-in-None-clause-none c = λ _.
    let i = c.self.inside in
    let early : c.args.moment < moment_limit =
    omega (arith, c.seconds-seconds.ensures.seconds, c.seconds-seconds.ensures.bounded) in
    none_due i.index i.entries i.lists i.wheel c.self.invariant.agree c.args.moment early c.in-None.ensures.0

pub returns-in-Some-clause-alive : goal.returns-in-Some-clause-alive
returns-in-Some-clause-alive c = λ n e h alive.
    let i = c.self.inside in
    let early : c.args.moment < moment_limit =
    omega (arith, c.seconds-seconds.ensures.seconds, c.seconds-seconds.ensures.bounded) in
    let one = due_one i.index i.entries i.lists i.wheel c.self.invariant.agree c.args.moment early c.in-Some.due.0
    c.in-Some.ensures.0 in
    alive_stays c.args.moment c.in-Some.due.0 one.0 i.entries.slots c.vacate.new.entries.slots one.1 one.2
    (c.vacate.ensures.gone one.0 one.1).entries n e (ap (λ (z : Held). slice_index_or z.slots n None) c.self.view_is ∙ h) alive

pub returns-in-Some-clause-sound : goal.returns-in-Some-clause-sound
returns-in-Some-clause-sound c = λ limits h.
    let i = c.self.inside in
    let early : c.args.moment < moment_limit =
    omega (arith, c.seconds-seconds.ensures.seconds, c.seconds-seconds.ensures.bounded) in
    let one = due_one i.index i.entries i.lists i.wheel c.self.invariant.agree c.args.moment early c.in-Some.due.0
    c.in-Some.ensures.0 in
    let left = slots_emptied_areas i.index i.entries i.lists i.wheel c.self.invariant.agree one.0 c.in-Some.due
    c.vacate.new.index
    c.vacate.new.entries one.1 (c.vacate.ensures.gone one.0 one.1) c.remove.new.self
    c.remove.ensures
    ∙ ap (λ (z : Held). without_key one.0.key z.areas) c.self.view_is in
    subst (λ a. AreSound limits a) (sym left) (sound_kept limits c.args.self.now.areas _ h)
