use Rattle.tc_slots.proofs.Tagged.{stands_held, tagged_vacated}
use Rattle.std.specs.Prelude.{IsSome, slice_index_or}
use Rattle.std.proofs.Common.{◌≡◌, length, Some, None, sym, ◌∙◌, ap, subst}
use Rattle.slab.specs.Slab.{get as slab_get}
use Rattle.tc_plain.specs.Placing.{without_key}
use Rattle.tc_slots.specs.Held.{Held, AreWithin}
use Rattle.tc_slots.proofs.Moves.{entry_of, holds_entry, long_cleared, within_vacated, slots_emptied, slots_emptied_areas}
use Rattle.tc_slots.proofs.slots.Slots.empty.Goals as goal

pub vacate-requires-clause-stands : goal.vacate-requires-clause-stands
vacate-requires-clause-stands c =
    let i = c.self.inside in
    stands_held i.hasher i.index (slab_get i.entries) (slab_get i.entries) c.args.slot.0 c.self.invariant.tagged

pub remove-requires : goal.remove-requires
remove-requires c =
    let i = c.self.inside in
    let one = entry_of (slab_get i.entries c.args.slot.0)
    (subst (λ (z : Held). IsSome (slice_index_or z.slots c.args.slot.0 None)) (sym c.self.view_is) c.requires) in
    holds_entry i.index i.entries i.lists i.wheel c.self.invariant.agree one.0 c.args.slot c.vacate.new.index
    c.vacate.new.entries
    one.1

pub invariant_of-self : goal.invariant_of-self
invariant_of-self c =
    let i = c.self.inside in
    let one = entry_of (slab_get i.entries c.args.slot.0)
    (subst (λ (z : Held). IsSome (slice_index_or z.slots c.args.slot.0 None)) (sym c.self.view_is) c.requires) in
    record {
      agree =
          slots_emptied i.index i.entries i.lists i.wheel c.self.invariant.agree one.0 c.args.slot c.vacate.new.index
          c.vacate.new.entries one.1 (c.vacate.ensures.gone one.0 one.1)
          c.remove.new.self c.remove-2.new.self c.remove.ensures c.remove-2.ensures;
      tagged =
          tagged_vacated i.hasher i.index (slab_get i.entries) (slab_get c.vacate.new.entries) c.args.slot.0
          c.self.invariant.tagged c.vacate.new.index one.0 one.1 (c.vacate.ensures.left one.0 one.1)
          (c.vacate.ensures.gone one.0 one.1).entries;
      within =
          subst (λ n. AreWithin n (slab_get c.vacate.new.entries))
          (sym (long_cleared i.wheel c.remove-2.new.self c.args.slot.0 c.remove-2.ensures))
          (within_vacated (length i.wheel.dues) c.args.slot.0 (slab_get i.entries) (slab_get c.vacate.new.entries)
          (c.vacate.ensures.gone one.0 one.1).entries c.self.invariant.within);
    }

pub returns-clause-areas : goal.returns-clause-areas
returns-clause-areas c = λ e h.
    let i = c.self.inside in
    let at : slab_get i.entries c.args.slot.0 ≡ Some e =
    ap (λ (z : Held). slice_index_or z.slots c.args.slot.0 None) c.self.view_is ∙ h in
    slots_emptied_areas i.index i.entries i.lists i.wheel c.self.invariant.agree e c.args.slot c.vacate.new.index
    c.vacate.new.entries at (c.vacate.ensures.gone e at) c.remove.new.self
    c.remove.ensures
    ∙ ap (λ (z : Held). without_key e.key z.areas) c.self.view_is
