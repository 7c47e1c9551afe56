use Rattle.std.specs.Prelude.{slice_index_or, IsSome}
use Rattle.std.proofs.Common.{◌≡◌, Some, None, refl, sym, ◌∙◌, ap, subst, arith}
use Rattle.slab.specs.Slab.{get as slab_get}
use Rattle.tc_model.specs.Areas.{accessed, total}
use Rattle.tc_plain.specs.Entries.{weight, has_key}
use Rattle.tc_wheel.specs.Dues.{due_at}
use Rattle.tc_slots.specs.Held.{Held}
use Rattle.tc_slots.proofs.Kept.{others_weigh, weighs_entry, put_same, time_same, slots_replaced, slots_replaced_areas}
use Rattle.tc_slots.proofs.Moves.{entry_of, holds_entry}
use Rattle.tc_slots.proofs.slots.Slots.access_at.Goals as goal

pub weight_of-weight-requires : goal.weight_of-weight-requires
weight_of-weight-requires c =
    let i = c.self.inside in
    let one = entry_of (slab_get i.entries c.args.slot.0)
    (subst (λ (z : Held). IsSome (slice_index_or z.slots c.args.slot.0 None)) (sym c.self.view_is) c.requires.held) in
    holds_entry i.index i.entries i.lists i.wheel c.self.invariant.agree one.0 c.args.slot i.index i.entries one.1

pub access-requires-clause-held : goal.access-requires-clause-held
access-requires-clause-held c =
    let i = c.self.inside in
    let one = entry_of (slab_get i.entries c.args.slot.0)
    (subst (λ (z : Held). IsSome (slice_index_or z.slots c.args.slot.0 None)) (sym c.self.view_is) c.requires.held) in
    holds_entry i.index i.entries i.lists i.wheel c.self.invariant.agree one.0 c.args.slot i.index i.entries one.1

pub access-requires-clause-light : goal.access-requires-clause-light
access-requires-clause-light c =
    let i = c.self.inside in
    let one = entry_of (slab_get i.entries c.args.slot.0)
    (subst (λ (z : Held). IsSome (slice_index_or z.slots c.args.slot.0 None)) (sym c.self.view_is) c.requires.held) in
    let there = ap (λ (z : Held). slice_index_or z.slots c.args.slot.0 None) (sym c.self.view_is) ∙ one.1 in
    omega (
      arith,
      weighs_entry i.index i.entries i.lists i.wheel c.self.invariant.agree one.0 c.args.slot one.1
          c.weight_of-weight.result c.weight_of-weight.ensures,
      c.requires.light one.0 there,
      ap (λ (z : Held). z.limits.main) c.self.view_is,
    )

pub access-requires-clause-fits : goal.access-requires-clause-fits
access-requires-clause-fits c =
    let i = c.self.inside in
    let one = entry_of (slab_get i.entries c.args.slot.0)
    (subst (λ (z : Held). IsSome (slice_index_or z.slots c.args.slot.0 None)) (sym c.self.view_is) c.requires.held) in
    let there = ap (λ (z : Held). slice_index_or z.slots c.args.slot.0 None) (sym c.self.view_is) ∙ one.1 in
    omega (
      arith,
      others_weigh i.index i.entries i.lists i.wheel c.self.invariant.agree one.0 c.args.slot one.1,
      ap (λ (z : Held). total weight z.areas) c.self.view_is,
      weighs_entry i.index i.entries i.lists i.wheel c.self.invariant.agree one.0 c.args.slot one.1
          c.weight_of-weight.result c.weight_of-weight.ensures,
      c.requires.fits one.0 there,
    )

pub invariant_of-self : goal.invariant_of-self
invariant_of-self c =
    let i = c.self.inside in
    let one = entry_of (slab_get i.entries c.args.slot.0)
    (subst (λ (z : Held). IsSome (slice_index_or z.slots c.args.slot.0 None)) (sym c.self.view_is) c.requires.held) in
    let e = one.0 in
    record {
      agree =
          slots_replaced i.index i.entries i.lists i.wheel c.self.invariant.agree e e c.args.slot one.1 refl
          c.weight_of-weight.result
          (weighs_entry i.index i.entries i.lists i.wheel c.self.invariant.agree e c.args.slot one.1
          c.weight_of-weight.result c.weight_of-weight.ensures) i.entries
          (put_same (slab_get i.entries) c.args.slot.0 e one.1) c.access.new.self
          c.access.ensures
          i.wheel (time_same (slab_get i.entries) (due_at i.wheel.dues) c.args.slot.0 e one.1 c.self.invariant.agree.timed);
      tagged = c.self.invariant.tagged;
      within = c.self.invariant.within;
    }

pub returns-clause-areas : goal.returns-clause-areas
returns-clause-areas c = λ e h.
    let i = c.self.inside in
    let at : slab_get i.entries c.args.slot.0 ≡ Some e =
    ap (λ (z : Held). slice_index_or z.slots c.args.slot.0 None) c.self.view_is ∙ h in
    slots_replaced_areas i.index i.entries i.lists i.wheel c.self.invariant.agree e e c.args.slot at refl
    c.weight_of-weight.result (weighs_entry i.index i.entries i.lists i.wheel c.self.invariant.agree e c.args.slot at
    c.weight_of-weight.result c.weight_of-weight.ensures) i.entries
    (put_same (slab_get i.entries) c.args.slot.0 e at) c.access.new.self
    c.access.ensures
    ∙ ap (λ (z : Held). accessed weight z.limits (has_key e.key) e z.areas) c.self.view_is
