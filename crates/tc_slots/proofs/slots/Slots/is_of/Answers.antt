use Rattle.std.proofs.Common.{sym, ◌∙◌, subst}
use Rattle.slab.specs.Slab.{get as slab_get}
use Rattle.tc_slots.specs.Held.{Held, IsFound}
use Rattle.tc_slots.proofs.Moves.{slots_found}
use Rattle.tc_slots.proofs.Tagged.{of_key}
use Rattle.tc_slots.proofs.slots.Slots.is_of.Goals as goal

pub returns : goal.returns
returns c = λ t.
    let i = c.self.inside in
    let key = c.args.key.now in
    subst (λ (z : Held). IsFound key c.args.slot.0 z) c.self.view_is
    (slots_found i.index i.entries i.lists i.wheel
    c.self.invariant.agree key c.args.slot
    (c.self.invariant.agree.found key c.args.slot
    (of_key (slab_get i.entries c.args.slot.0) key (sym c.is_of.ensures ∙ t))))
