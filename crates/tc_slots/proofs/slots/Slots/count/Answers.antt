use Rattle.std.specs.Prelude.{length}
use Rattle.std.proofs.Common.{◌∙◌, ap}
use Rattle.tc_slots.specs.Agreement.{slot_of}
use Rattle.tc_plain.specs.EvictionState.{entries_of}
use Rattle.tc_wheel.specs.Dues.{due_at}
use Rattle.tc_slots.specs.Held.{Held}
use Rattle.tc_slots.proofs.Tally.{as_many}
use Rattle.tc_slots.proofs.slots.Slots.count.Goals as goal

pub returns : goal.returns
returns c =
    let i = c.self.inside in
    c.len.ensures
    ∙ as_many (slot_of i.entries.slots) i.entries.slots (due_at i.wheel.dues) i.lists.areas c.self.invariant.agree
    ∙ ap (λ (z : Held). length (entries_of z.areas)) c.self.view_is
