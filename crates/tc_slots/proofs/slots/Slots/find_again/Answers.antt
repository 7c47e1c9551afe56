use Rattle.std.proofs.Common.{None, ◌∙◌, ap, subst}
use Rattle.tc_plain.specs.EvictionState.{held}
use Rattle.tc_slots.specs.Held.{Held, FindsSlot}
use Rattle.tc_slots.proofs.Moves.{index_free, slots_missed}
use Rattle.tc_slots.proofs.slots.Slots.find_again.Goals as goal

pub returns-in-None : goal.returns-in-None
returns-in-None c =
    let i = c.self.inside in
    let key = c.args.key.now in
    subst (λ (z : Held). FindsSlot None key z) c.self.view_is
    (slots_missed i.index i.entries i.lists i.wheel
    c.self.invariant.agree key
    (index_free i.index i.entries i.lists i.wheel c.self.invariant.agree key
    (ap (λ (z : Held). held key z.areas) c.self.view_is ∙ c.requires c.in-None.is)))
