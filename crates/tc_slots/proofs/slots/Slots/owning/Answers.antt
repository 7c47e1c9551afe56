use Rattle.std.specs.Prelude.{slice_index_or}
use Rattle.std.proofs.Common.{◌≡◌, None, Some, sym, ◌∙◌, ap}
use Rattle.tc_slots.specs.Agreement.{slot_of}
use Rattle.slab.specs.Slab.{get as slab_get}
use Rattle.tc_item.specs.declared.slot.Slot.{Slot}
use Rattle.tc_plain.specs.EvictionState.{held}
use Rattle.tc_wheel.specs.Dues.{due_at}
use Rattle.tc_slots.specs.Held.{Held}
use Rattle.tc_slots.proofs.Looked.{held_filled}
use Rattle.tc_slots.proofs.slots.Slots.owning.Goals as goal

pub returns : goal.returns
returns c = λ n e h.
    let i = c.self.inside in
    let v : Slot = record { 0 = n } in
    let at : slab_get i.entries n ≡ Some e = ap (λ (z : Held). slice_index_or z.slots n None) c.self.view_is ∙ h in
    sym (ap (λ (z : Held). held e.key z.areas) c.self.view_is)
    ∙ held_filled (slot_of i.entries.slots) (slab_get i.entries) (due_at i.wheel.dues) i.lists.areas
    c.self.invariant.agree e v
    at
