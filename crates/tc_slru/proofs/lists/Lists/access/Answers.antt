use Rattle.std.proofs.Common.{refl, ◌∙◌, ap}
use Rattle.tc_slru.specs.Slots.{taken_out}
use Rattle.tc_slru.specs.SlotLists.{accessed_at}
use Rattle.tc_slru.specs.Dropping.{limits_of}
use Rattle.tc_slru.proofs.Holding.{access_by}
use Rattle.tc_slru.proofs.lists.Lists.access.Goals as goal

pub invariant_of-self : goal.invariant_of-self
invariant_of-self c =
    (access_by (limits_of c.self.inside.limits) c.args.slot.0 c.args.weight c.area_of.result c.raised-to.result
    c.self.inside.areas (taken_out c.args.slot.0 c.self.inside.areas) c.move_to.new.self
    c.hold_protected.new.areas c.area_of.ensures c.raised-to.ensures refl c.move_to.ensures
    c.hold_protected.ensures (rw (← c.self.view_is) at c.requires.light)
    (rw (← c.self.view_is) at c.requires.fits) c.self.invariant).fit

pub returns : goal.returns
returns c =
    (access_by (limits_of c.self.inside.limits) c.args.slot.0 c.args.weight c.area_of.result c.raised-to.result
    c.self.inside.areas (taken_out c.args.slot.0 c.self.inside.areas) c.move_to.new.self
    c.hold_protected.new.areas c.area_of.ensures c.raised-to.ensures refl c.move_to.ensures
    c.hold_protected.ensures (rw (← c.self.view_is) at c.requires.light)
    (rw (← c.self.view_is) at c.requires.fits) c.self.invariant).shows
    ∙ ap (λ t. accessed_at c.args.slot.0 c.args.weight t) c.self.view_is
