use Rattle.tc_slots.proofs.Tagged.{tagged_put}
use Rattle.std.specs.Prelude.{slice_index_or, is_some}
use Rattle.std.proofs.Common.{◌≡◌, Some, None, length, sym, ◌∙◌, ap, subst, arith}
use Rattle.slab.specs.Slab.{get as slab_get}
use Rattle.tc_model.specs.Areas.{accessed, total}
use Rattle.tc_plain.specs.Entries.{weight, has_key}
use Rattle.tc_wheel.specs.Dues.{due_at}
use Rattle.tc_slots.specs.Agreement.{set_at}
use Rattle.tc_slots.specs.Held.{Held, AreWithin}
use Rattle.tc_slots.proofs.Kept.{due_again, others_weigh, slots_replaced, slots_replaced_areas}
use Rattle.tc_slots.proofs.Moves.{holds_entry, long_cleared, within_taken}
use Rattle.tc_slots.proofs.slots.Slots.replace.Goals as goal

pub access-requires-clause-held : goal.access-requires-clause-held
access-requires-clause-held c =
    let i = c.self.inside in
    let f = c.requires.found in
    let at : slab_get i.entries c.args.slot.0 ≡ Some f.entry =
    ap (λ (z : Held). slice_index_or z.slots c.args.slot.0 None) c.self.view_is ∙ f.at in
    holds_entry i.index i.entries i.lists i.wheel c.self.invariant.agree f.entry c.args.slot i.index i.entries at

pub access-requires-clause-fits : goal.access-requires-clause-fits
access-requires-clause-fits c =
    let i = c.self.inside in
    let f = c.requires.found in
    let at : slab_get i.entries c.args.slot.0 ≡ Some f.entry =
    ap (λ (z : Held). slice_index_or z.slots c.args.slot.0 None) c.self.view_is ∙ f.at in
    omega (
      arith,
      others_weigh i.index i.entries i.lists i.wheel c.self.invariant.agree f.entry c.args.slot at,
      ap (λ (z : Held). total weight z.areas) c.self.view_is,
      c.weight-weight.ensures.value,
      c.requires.fits,
    )

pub invariant_of-self : goal.invariant_of-self
invariant_of-self c =
    let i = c.self.inside in
    let f = c.requires.found in
    let at : slab_get i.entries c.args.slot.0 ≡ Some f.entry =
    ap (λ (z : Held). slice_index_or z.slots c.args.slot.0 None) c.self.view_is ∙ f.at in
    record {
      agree =
          slots_replaced i.index i.entries i.lists i.wheel c.self.invariant.agree f.entry c.args.entry c.args.slot at f.own
          c.weight-weight.result c.weight-weight.ensures.value c.put.new.entries c.put.ensures.entries c.access.new.self
          c.access.ensures
          c.time.new.wheel (due_again i.wheel c.remove.new.self c.time.new.wheel c.args.slot.0 _ c.remove.ensures
          (λ k. c.time.ensures.dues k
          ∙ ap (λ o. set_at c.args.slot.0 o (due_at c.remove.new.self.dues) k) c.reached_by-due.ensures));
      tagged =
          tagged_put i.hasher i.index (slab_get i.entries) (slab_get c.put.new.entries) c.args.slot.0
          c.self.invariant.tagged f.entry c.args.entry at f.own c.put.ensures.entries;
      within =
          subst (λ n. AreWithin n (slab_get c.put.new.entries))
          (sym (c.time.ensures.long ∙ long_cleared i.wheel c.remove.new.self c.args.slot.0 c.remove.ensures))
          (within_taken (length i.wheel.dues) c.args.slot.0 c.args.entry (slab_get i.entries) (slab_get c.put.new.entries)
          (c.self.invariant.within c.args.slot.0 (ap is_some at)) c.put.ensures.entries c.self.invariant.within);
    }

pub returns-clause-areas : goal.returns-clause-areas
returns-clause-areas c =
    let i = c.self.inside in
    let f = c.requires.found in
    let at : slab_get i.entries c.args.slot.0 ≡ Some f.entry =
    ap (λ (z : Held). slice_index_or z.slots c.args.slot.0 None) c.self.view_is ∙ f.at in
    slots_replaced_areas i.index i.entries i.lists i.wheel c.self.invariant.agree f.entry c.args.entry c.args.slot at f.own
    c.weight-weight.result c.weight-weight.ensures.value c.put.new.entries c.put.ensures.entries c.access.new.self
    c.access.ensures
    ∙ ap (λ (z : Held). accessed weight z.limits (has_key c.args.entry.key) c.args.entry z.areas) c.self.view_is
