use Rattle.tc_slots.proofs.Tagged.{stands_held, tagged_vacated}
use Rattle.std.specs.Prelude.{true, false}
use Rattle.tc_plain.specs.BySlot.{areas_by}
use Rattle.std.proofs.Common.{length, sym, ◌∙◌, ap, subst}
use Rattle.slab.specs.Slab.{get as slab_get}
use Rattle.tc_slots.specs.Held.{Held, DropsEntry, filled, AreWithin}
use Rattle.tc_slots.proofs.Drops.{drop_one, drop_held, drop_filled, drop_entry, end_filled, end_entries}
use Rattle.tc_slots.proofs.Moves.{room_vacated, long_cleared, within_vacated}
use Rattle.tc_slru.specs.SlotLists.{SlotLists}
use Rattle.tc_slots.proofs.slots.Slots.settle_next.Goals as goal

pub vacate-requires-clause-held : goal.vacate-requires-clause-held
vacate-requires-clause-held c =
    let i = c.self.inside in
    drop_held i.index i.entries i.lists i.wheel c.self.invariant.agree c.args.sketch.now c.drop_next.new.lists
    c.in-Some.ensures.kept c.in-Some.victim c.in-Some.ensures.next

pub vacate-requires-clause-stands : goal.vacate-requires-clause-stands
vacate-requires-clause-stands c =
    let i = c.self.inside in
    stands_held i.hasher i.index (slab_get i.entries) (slab_get i.entries) c.in-Some.victim.0 c.self.invariant.tagged

pub invariant_of-self : goal.invariant_of-self
invariant_of-self c =
    let i = c.self.inside in
    let one = drop_one i.index i.entries i.lists i.wheel c.self.invariant.agree c.args.sketch.now
    c.drop_next.new.lists
    c.in-Some.ensures.kept c.in-Some.victim c.in-Some.ensures.next in
    record {
      agree =
          drop_filled i.index i.entries i.lists i.wheel c.self.invariant.agree c.args.sketch.now
          c.drop_next.new.lists
          c.in-Some.ensures.kept c.in-Some.victim c.in-Some.ensures.next
          c.vacate.new.index c.vacate.new.entries c.remove.new.self (c.vacate.ensures.gone one.0 one.1) c.remove.ensures;
      tagged =
          tagged_vacated i.hasher i.index (slab_get i.entries) (slab_get c.vacate.new.entries) c.in-Some.victim.0
          c.self.invariant.tagged c.vacate.new.index one.0 one.1 (c.vacate.ensures.left one.0 one.1)
          (c.vacate.ensures.gone one.0 one.1).entries;
      within =
          subst (λ n. AreWithin n (slab_get c.vacate.new.entries))
          (sym (long_cleared i.wheel c.remove.new.self c.in-Some.victim.0 c.remove.ensures))
          (within_vacated (length i.wheel.dues) c.in-Some.victim.0 (slab_get i.entries) (slab_get c.vacate.new.entries)
          (c.vacate.ensures.gone one.0 one.1).entries c.self.invariant.within);
    }

pub invariant_of-self-in-None : goal.invariant_of-self-in-None
invariant_of-self-in-None c =
    let i = c.self.inside in
    record {
      agree =
          end_filled i.index i.entries i.lists i.wheel c.self.invariant.agree c.args.sketch.now
          c.drop_next.new.lists
          c.in-None.ensures.kept c.in-None.ensures.next;
      tagged = c.self.invariant.tagged;
      within = c.self.invariant.within;
    }

pub returns-in-Some-clause-next : goal.returns-in-Some-clause-next
returns-in-Some-clause-next c =
    let i = c.self.inside in
    let one = drop_one i.index i.entries i.lists i.wheel c.self.invariant.agree c.args.sketch.now
    c.drop_next.new.lists
    c.in-Some.ensures.kept c.in-Some.victim c.in-Some.ensures.next in
    subst (λ (z : Held). DropsEntry true c.args.sketch.now z
    (record {
      limits = c.drop_next.new.lists.limits;
      areas = areas_by (slab_get c.vacate.new.entries) c.drop_next.new.lists.areas;
      slots = c.vacate.new.entries.slots;
      has_room = true;
    })) c.self.view_is
    (drop_entry i.index i.entries i.lists i.wheel c.self.invariant.agree c.args.sketch.now c.drop_next.new.lists
    c.in-Some.ensures.kept c.in-Some.victim c.in-Some.ensures.next
    c.vacate.new.index c.vacate.new.entries c.remove.new.self (c.vacate.ensures.gone one.0 one.1) c.remove.ensures)

pub returns-in-Some-clause-fewer : goal.returns-in-Some-clause-fewer
returns-in-Some-clause-fewer c = λ _.
    let i = c.self.inside in
    let one = drop_one i.index i.entries i.lists i.wheel c.self.invariant.agree c.args.sketch.now
    c.drop_next.new.lists
    c.in-Some.ensures.kept c.in-Some.victim c.in-Some.ensures.next in
    (c.vacate.ensures.gone one.0 one.1).fewer ∙ ap (λ (z : Held). filled z.slots) c.self.view_is

pub returns-in-Some-clause-room : goal.returns-in-Some-clause-room
returns-in-Some-clause-room c = λ r.
    let i = c.self.inside in
    let one = drop_one i.index i.entries i.lists i.wheel c.self.invariant.agree c.args.sketch.now
    c.drop_next.new.lists
    c.in-Some.ensures.kept c.in-Some.victim c.in-Some.ensures.next in
    room_vacated one.0 c.in-Some.victim.0 i.index c.vacate.new.index i.entries c.vacate.new.entries i.lists
    c.drop_next.new.lists
    i.wheel c.remove.new.self (c.vacate.ensures.gone one.0 one.1)
    (ap (λ (z : SlotLists). z.slots) c.in-Some.ensures.kept) c.remove.ensures (ap (λ (z : Held). z.has_room) c.self.view_is ∙ r)

pub returns-in-None-clause-next : goal.returns-in-None-clause-next
returns-in-None-clause-next c =
    let i = c.self.inside in
    subst (λ (z : Held). DropsEntry false c.args.sketch.now z
    (record {
      limits = c.drop_next.new.lists.limits;
      areas = areas_by (slab_get i.entries) c.drop_next.new.lists.areas;
      slots = i.entries.slots;
      has_room = true;
    })) c.self.view_is
    (end_entries i.index i.entries i.lists i.wheel c.self.invariant.agree c.args.sketch.now c.drop_next.new.lists
    c.in-None.ensures.kept c.in-None.ensures.next)
