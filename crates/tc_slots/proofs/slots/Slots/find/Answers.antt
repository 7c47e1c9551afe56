use Rattle.std.proofs.Common.{subst, rules}
use Rattle.slab.specs.Slab.{get as slab_get}
use Rattle.tc_slots.specs.Agreement.{is_of}
use Rattle.tc_slots.specs.Held.{Held, FindsSlot}
use Rattle.tc_slots.proofs.Moves.{slots_sought}
use Rattle.tc_slots.proofs.slots.Slots.find.Goals as goal

pub returns : goal.returns
returns c =
    let i = c.self.inside in
    let key = c.args.key.now in
    subst (λ (z : Held). FindsSlot c.find.result key z) c.self.view_is
    (slots_sought i.index i.entries i.lists i.wheel
    c.self.invariant.agree i.hasher key c.self.invariant.tagged c.find.result c.key_tag-tag.result.0 c.key_tag-tag.ensures
    (c.find.ensures (λ n. is_of key (slab_get i.entries n)) (λ slot answer lt p. search rules)))
