use Rattle.std.specs.Prelude.{slice_index_or}
use Rattle.std.proofs.Common.{◌≡◌, Some, None, refl, sym, ◌∙◌, ap, arith}
use Rattle.slab.specs.Slab.{get as slab_get}
use Rattle.tc_model.specs.Areas.{accessed, total}
use Rattle.tc_plain.specs.declared.shared.entry.Entry.{Entry}
use Rattle.tc_plain.specs.Entries.{weight, has_key}
use Rattle.tc_wheel.specs.Dues.{due_at}
use Rattle.tc_slots.specs.Held.{Held}
use Rattle.tc_slots.proofs.Filling.{some_same}
use Rattle.tc_slots.proofs.Kept.{others_weigh, put_same, time_same, slots_replaced, slots_replaced_areas}
use Rattle.tc_slots.proofs.Moves.{holds_entry}
use Rattle.tc_slots.proofs.slots.Slots.access.Goals as goal

pub access-requires-clause-held : goal.access-requires-clause-held
access-requires-clause-held c =
    let i = c.self.inside in
    let f = c.requires.found in
    let at : slab_get i.entries c.args.slot.0 ≡ Some f.entry =
    ap (λ (z : Held). slice_index_or z.slots c.args.slot.0 None) c.self.view_is ∙ f.at in
    holds_entry i.index i.entries i.lists i.wheel c.self.invariant.agree f.entry c.args.slot i.index i.entries at

pub access-requires-clause-light : goal.access-requires-clause-light
access-requires-clause-light c =
    let i = c.self.inside in
    let f = c.requires.found in
    let at : slab_get i.entries c.args.slot.0 ≡ Some f.entry =
    ap (λ (z : Held). slice_index_or z.slots c.args.slot.0 None) c.self.view_is ∙ f.at in
    omega (
      arith,
      c.weight_at-weight.ensures f.entry at,
      c.requires.light f.entry f.held,
      ap (λ (z : Held). z.limits.main) c.self.view_is,
    )

pub access-requires-clause-fits : goal.access-requires-clause-fits
access-requires-clause-fits c =
    let i = c.self.inside in
    let f = c.requires.found in
    let at : slab_get i.entries c.args.slot.0 ≡ Some f.entry =
    ap (λ (z : Held). slice_index_or z.slots c.args.slot.0 None) c.self.view_is ∙ f.at in
    omega (
      arith,
      others_weigh i.index i.entries i.lists i.wheel c.self.invariant.agree f.entry c.args.slot at,
      ap (λ (z : Held). total weight z.areas) c.self.view_is,
      c.weight_at-weight.ensures f.entry at,
      c.requires.fits f.entry f.held,
    )

pub invariant_of-self : goal.invariant_of-self
invariant_of-self c =
    let i = c.self.inside in
    let f = c.requires.found in
    let e = f.entry in
    let at : slab_get i.entries c.args.slot.0 ≡ Some e =
    ap (λ (z : Held). slice_index_or z.slots c.args.slot.0 None) c.self.view_is ∙ f.at in
    record {
      agree =
          slots_replaced i.index i.entries i.lists i.wheel c.self.invariant.agree e e c.args.slot at refl
          c.weight_at-weight.result (c.weight_at-weight.ensures e at) i.entries
          (put_same (slab_get i.entries) c.args.slot.0 e at) c.access.new.self
          c.access.ensures
          i.wheel (time_same (slab_get i.entries) (due_at i.wheel.dues) c.args.slot.0 e at c.self.invariant.agree.timed);
      tagged = c.self.invariant.tagged;
      within = c.self.invariant.within;
    }

pub returns-clause-areas : goal.returns-clause-areas
returns-clause-areas c = λ d h.
    let i = c.self.inside in
    let f = c.requires.found in
    let e = f.entry in
    let at : slab_get i.entries c.args.slot.0 ≡ Some e =
    ap (λ (z : Held). slice_index_or z.slots c.args.slot.0 None) c.self.view_is ∙ f.at in
    slots_replaced_areas i.index i.entries i.lists i.wheel c.self.invariant.agree e e c.args.slot at refl
    c.weight_at-weight.result (c.weight_at-weight.ensures e at) i.entries
    (put_same (slab_get i.entries) c.args.slot.0 e at) c.access.new.self
    c.access.ensures
    ∙ ap (λ (z : Held). accessed weight z.limits (has_key e.key) e z.areas) c.self.view_is
    ∙ ap (λ k. accessed weight c.args.self.now.limits (has_key k) e c.args.self.now.areas) f.own
    ∙ ap (λ (z : Entry). accessed weight c.args.self.now.limits (has_key c.args.key.now) z c.args.self.now.areas)
    (some_same e d (sym f.held ∙ h))
