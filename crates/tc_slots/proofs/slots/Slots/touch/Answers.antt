use Rattle.tc_slots.proofs.Tagged.{tagged_put}
use Rattle.std.specs.Prelude.{slice_index_or, is_some}
use Rattle.std.proofs.Common.{◌≡◌, Some, None, length, refl, sym, ◌∙◌, ap, subst, arith}
use Rattle.slab.specs.Slab.{get as slab_get}
use Rattle.tc_model.specs.Areas.{accessed, total}
use Rattle.tc_plain.specs.declared.shared.entry.Entry.{Entry}
use Rattle.tc_plain.specs.Entries.{weight, has_key, with_item, with_due}
use Rattle.tc_wheel.specs.Dues.{due_at}
use Rattle.tc_slots.specs.Agreement.{set_at}
use Rattle.tc_slots.specs.Held.{Held, AreWithin}
use Rattle.tc_slots.proofs.Filling.{some_same}
use Rattle.tc_slots.proofs.Kept.{due_again, others_weigh, slots_replaced, slots_replaced_areas}
use Rattle.tc_slots.proofs.Moves.{holds_entry, long_cleared, within_taken}
use Rattle.tc_slots.proofs.slots.Slots.touch.Goals as goal

pub access-requires-clause-held : goal.access-requires-clause-held
access-requires-clause-held c =
    let i = c.self.inside in
    let f = c.requires.found in
    let at : slab_get i.entries c.args.slot.0 ≡ Some f.entry =
    ap (λ (z : Held). slice_index_or z.slots c.args.slot.0 None) c.self.view_is ∙ f.at in
    holds_entry i.index i.entries i.lists i.wheel c.self.invariant.agree f.entry c.args.slot i.index i.entries at

pub access-requires-clause-light : goal.access-requires-clause-light
access-requires-clause-light c =
    let i = c.self.inside in
    let f = c.requires.found in
    let at : slab_get i.entries c.args.slot.0 ≡ Some f.entry =
    ap (λ (z : Held). slice_index_or z.slots c.args.slot.0 None) c.self.view_is ∙ f.at in
    omega (
      arith,
      c.weight_at-weight.ensures f.entry at,
      c.requires.light f.entry f.held,
      ap (λ (z : Held). z.limits.main) c.self.view_is,
    )

pub access-requires-clause-fits : goal.access-requires-clause-fits
access-requires-clause-fits c =
    let i = c.self.inside in
    let f = c.requires.found in
    let at : slab_get i.entries c.args.slot.0 ≡ Some f.entry =
    ap (λ (z : Held). slice_index_or z.slots c.args.slot.0 None) c.self.view_is ∙ f.at in
    omega (
      arith,
      others_weigh i.index i.entries i.lists i.wheel c.self.invariant.agree f.entry c.args.slot at,
      ap (λ (z : Held). total weight z.areas) c.self.view_is,
      c.weight_at-weight.ensures f.entry at,
      c.requires.fits f.entry f.held,
    )

pub invariant_of-self : goal.invariant_of-self
invariant_of-self c =
    let i = c.self.inside in
    let f = c.requires.found in
    let e = f.entry in
    let x : Entry = with_item e (with_due c.args.due e.item) in
    let at : slab_get i.entries c.args.slot.0 ≡ Some e =
    ap (λ (z : Held). slice_index_or z.slots c.args.slot.0 None) c.self.view_is ∙ f.at in
    record {
      agree =
          slots_replaced i.index i.entries i.lists i.wheel c.self.invariant.agree e x c.args.slot at refl
          c.weight_at-weight.result (c.weight_at-weight.ensures e at) c.put_due.new.entries
          (c.put_due.ensures.entries e at) c.access.new.self c.access.ensures
          c.time.new.wheel (due_again i.wheel c.remove.new.self c.time.new.wheel c.args.slot.0 _ c.remove.ensures
          (λ k. c.time.ensures.dues k
          ∙ ap (λ o. set_at c.args.slot.0 o (due_at c.remove.new.self.dues) k) c.reached.ensures));
      tagged =
          tagged_put i.hasher i.index (slab_get i.entries) (slab_get c.put_due.new.entries) c.args.slot.0
          c.self.invariant.tagged e x at refl (c.put_due.ensures.entries e at);
      within =
          subst (λ n. AreWithin n (slab_get c.put_due.new.entries))
          (sym (c.time.ensures.long ∙ long_cleared i.wheel c.remove.new.self c.args.slot.0 c.remove.ensures))
          (within_taken (length i.wheel.dues) c.args.slot.0 x (slab_get i.entries) (slab_get c.put_due.new.entries)
          (c.self.invariant.within c.args.slot.0 (ap is_some at)) (c.put_due.ensures.entries e at) c.self.invariant.within);
    }

pub returns-clause-areas : goal.returns-clause-areas
returns-clause-areas c = λ d h.
    let i = c.self.inside in
    let f = c.requires.found in
    let e = f.entry in
    let x : Entry = with_item e (with_due c.args.due e.item) in
    let at : slab_get i.entries c.args.slot.0 ≡ Some e =
    ap (λ (z : Held). slice_index_or z.slots c.args.slot.0 None) c.self.view_is ∙ f.at in
    slots_replaced_areas i.index i.entries i.lists i.wheel c.self.invariant.agree e x c.args.slot at refl
    c.weight_at-weight.result (c.weight_at-weight.ensures e at) c.put_due.new.entries
    (c.put_due.ensures.entries e at) c.access.new.self c.access.ensures
    ∙ ap (λ (z : Held). accessed weight z.limits (has_key e.key) x z.areas) c.self.view_is
    ∙ ap (λ k. accessed weight c.args.self.now.limits (has_key k) x c.args.self.now.areas) f.own
    ∙ ap
    (λ (z : Entry). accessed weight c.args.self.now.limits (has_key c.args.key.now)
    (with_item z (with_due c.args.due z.item)) c.args.self.now.areas)
    (some_same e d (sym f.held ∙ h))
