use Rattle.std.proofs.Common.{◌∙◌, ap, arith}
use Rattle.slab.specs.Slab.{get as slab_get}
use Rattle.tc_slots.specs.Held.{Held}
use Rattle.tc_plain.specs.BySlot.{entries_at}
use Rattle.tc_slots.proofs.Away.{three_same}
use Rattle.tc_plain.proofs.Copies.{copied_all}
use Rattle.tc_slots.proofs.slots.Slots.copy.Goals as goal

pub returns : goal.returns
returns c =
    let i = c.self.inside in
    let S = slab_get i.entries in
    let a = i.lists.areas in
    let k = c.self.invariant.agree.weighed in
    three_same _ _ _ _ _ _
    (c.in_ok-window.ensures ∙ ap (entries_at S) (c.deref.ensures.value ∙ c.in_ok-first.ensures)
    ∙ copied_all S a.window (omega (arith, k)))
    (c.in_ok-probation.ensures ∙ ap (entries_at S) (c.deref-2.ensures.value ∙ c.in_ok-second.ensures)
    ∙ copied_all S a.probation (omega (arith, k)))
    (c.in_ok-protected.ensures ∙ ap (entries_at S) (c.deref-3.ensures.value ∙ c.in_ok-third.ensures)
    ∙ copied_all S a.protected (omega (arith, k)))
    ∙ ap (λ (z : Held). z.areas) c.self.view_is
