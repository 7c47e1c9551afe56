use Rattle.tc_slots.proofs.Tagged.{tagged_taken}
use Rattle.std.proofs.Common.{length, sym, subst, ◌∙◌, ap, arith}
use Rattle.tc_model.specs.Areas.{total}
use Rattle.tc_plain.specs.Entries.{weight}
use Rattle.tc_plain.specs.EvictionState.{held}
use Rattle.tc_slru.specs.InAreas.{fronted_in}
use Rattle.tc_slots.specs.Held.{Held, AreWithin}
use Rattle.tc_slots.proofs.Moves.{fill_free, slots_filled, slots_filled_areas, total_weighs, room_parts, within_taken}
use Rattle.tc_wheel.specs.Dues.{due_at}
use Rattle.tc_slots.specs.Agreement.{set_at}
use Rattle.slab.specs.Slab.{get as slab_get}
use Rattle.tc_slots.proofs.slots.Slots.fill.Goals as goal

pub push-requires-clause-free : goal.push-requires-clause-free
push-requires-clause-free c =
    let i = c.self.inside in
    fill_free i.index i.entries i.lists i.wheel c.self.invariant.agree c.args.entry c.take_in-slot.result
    c.take_in-slot.new.index
    c.take_in-slot.new.entries c.take_in-slot.ensures.taken
    (ap (λ (z : Held). held c.args.entry.key z.areas) c.self.view_is ∙ c.requires.free)

pub push-requires-clause-fits : goal.push-requires-clause-fits
push-requires-clause-fits c =
    let i = c.self.inside in
    omega (
      arith,
      total_weighs (slab_get i.entries) i.lists.areas c.self.invariant.agree.weighed,
      ap (λ (z : Held). total weight z.areas) c.self.view_is,
      c.weight-weight.ensures.value,
      c.requires.fits,
    )

pub invariant_of-self : goal.invariant_of-self
invariant_of-self c =
    let i = c.self.inside in
    let r = room_parts i.index i.entries i.lists i.wheel (ap (λ (z : Held). z.has_room) c.self.view_is ∙ c.requires.room) in
    record {
      agree =
          slots_filled i.index i.entries i.lists i.wheel c.self.invariant.agree c.args.entry c.take_in-slot.result
          c.take_in-slot.new.index c.take_in-slot.new.entries c.take_in-slot.ensures.taken
          (ap (λ (z : Held). held c.args.entry.key z.areas) c.self.view_is ∙ c.requires.free)
          c.args.area c.push.new.self c.time.new.wheel c.weight-weight.result c.weight-weight.ensures.value
          c.push.ensures
          (λ k. c.time.ensures.dues k
          ∙ ap (λ o. set_at c.take_in-slot.result.0 o (due_at i.wheel.dues) k) c.reached_by-due.ensures);
      tagged =
          tagged_taken i.hasher i.index (slab_get i.entries) (slab_get c.take_in-slot.new.entries) c.take_in-slot.result.0
          c.self.invariant.tagged c.take_in-slot.new.index c.args.entry c.take_in-slot.ensures.taken.vacant
          c.take_in-slot.ensures.taken.index c.take_in-slot.ensures.taken.entries;
      within = subst (λ n. AreWithin n (slab_get c.take_in-slot.new.entries)) (sym c.time.ensures.long)
          (within_taken (length i.wheel.dues) c.take_in-slot.result.0 c.args.entry (slab_get i.entries)
          (slab_get c.take_in-slot.new.entries) (omega (arith, c.take_in-slot.ensures.taken.within, r.wheel))
          c.take_in-slot.ensures.taken.entries c.self.invariant.within);
    }

pub returns-clause-areas : goal.returns-clause-areas
returns-clause-areas c =
    let i = c.self.inside in
    slots_filled_areas i.index i.entries i.lists i.wheel c.self.invariant.agree c.args.entry c.take_in-slot.result
    c.take_in-slot.new.index c.take_in-slot.new.entries c.take_in-slot.ensures.taken
    (ap (λ (z : Held). held c.args.entry.key z.areas) c.self.view_is ∙ c.requires.free)
    c.args.area c.push.new.self c.weight-weight.result c.push.ensures
    ∙ ap (λ (z : Held). fronted_in c.args.area c.args.entry z.areas) c.self.view_is
