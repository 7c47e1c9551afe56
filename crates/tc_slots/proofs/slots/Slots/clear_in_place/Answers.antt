use Rattle.std.specs.Prelude.{length}
use Rattle.std.proofs.Common.{◌∙◌, ap}
use Rattle.tc_slots.specs.Held.{Held}
use Rattle.tc_slots.proofs.Cleared.{tags_cleared, slots_cleared, slots_cleared_areas, within_cleared, room_cleared}
use Rattle.tc_slots.proofs.slots.Slots.clear_in_place.Goals as goal

pub invariant_of-self : goal.invariant_of-self
invariant_of-self c =
    let i = c.self.inside in
    record {
      agree =
          slots_cleared c.clear.new.self c.clear-2.new.self i.lists c.clear-3.new.self i.wheel c.clear-4.new.self
          c.clear-2.ensures.empty c.clear-3.ensures c.clear-4.ensures;
      tagged =
          tags_cleared i.hasher c.clear.new.self c.clear-2.new.self c.clear.ensures.none c.clear-2.ensures.empty;
      within =
          within_cleared c.clear.new.self c.clear-2.new.self i.lists c.clear-3.new.self i.wheel c.clear-4.new.self
          c.clear-2.ensures.empty c.clear-3.ensures
          c.clear-4.ensures (length c.clear-4.new.self.dues);
    }

pub returns-clause-areas : goal.returns-clause-areas
returns-clause-areas c =
    let i = c.self.inside in
    slots_cleared_areas c.clear.new.self c.clear-2.new.self i.lists c.clear-3.new.self i.wheel c.clear-4.new.self
    c.clear-2.ensures.empty c.clear-3.ensures c.clear-4.ensures

pub returns-clause-room : goal.returns-clause-room
returns-clause-room c = λ h.
    let i = c.self.inside in
    room_cleared c.clear.new.self c.clear-2.new.self i.lists c.clear-3.new.self i.wheel c.clear-4.new.self
    c.clear-2.ensures.empty c.clear-3.ensures c.clear-4.ensures i.index i.entries
    c.clear.ensures.room c.clear.ensures.slots
    c.clear-2.ensures.capacity (ap (λ (z : Held). z.has_room) c.self.view_is ∙ h)
