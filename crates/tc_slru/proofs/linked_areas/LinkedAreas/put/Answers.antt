use Rattle.std.proofs.Common.{arith, ◌∙◌, ap}
use Rattle.tc_slru.specs.Links.{links_of}
use Rattle.tc_slru.specs.Slots.{Shown}
use Rattle.tc_slru.specs.InAreas.{fronted_in}
use Rattle.tc_slru.proofs.Put.{put_by, mark_within, count_fits}
use Rattle.tc_slru.proofs.linked_areas.LinkedAreas.put.Goals as goal

pub link_behind-requires : goal.link_behind-requires
link_behind-requires c =
    let mark = mark_within c.args.area (links_of c.self.inside.nodes) c.self.inside.sizes _ c.self.invariant in
    rw (c.note.ensures, c.mark_of.ensures, c.place-at.ensures.node)
    (omega arith, (mark.0, (omega (arith, c.requires.reserved, ap (λ (z : Shown). z.slots) c.self.view_is), mark.1)))

pub enter-requires-clause-count : goal.enter-requires-clause-count
enter-requires-clause-count c =
    let fits = count_fits c.args.area (links_of c.self.inside.nodes) c.self.inside.sizes _ c.self.invariant in
    omega (arith, fits, c.place-at.ensures.few)

pub invariant_of-self : goal.invariant_of-self
invariant_of-self c =
    (put_by c.args.area c.self.inside.nodes c.self.inside.sizes c.args.slot.0 c.args.weight c.place-at.result c.mark_of.result
    c.note.new.self c.link_behind.new.self c.enter.new.self c.place-at.ensures.node c.mark_of.ensures c.note.ensures
    c.link_behind.ensures c.enter.ensures
    (rw (← c.self.view_is) at c.requires.reserved) (rw (← c.self.view_is) at c.requires.free) c.self.invariant).nodes

pub returns : goal.returns
returns c =
    (put_by c.args.area c.self.inside.nodes c.self.inside.sizes c.args.slot.0 c.args.weight c.place-at.result c.mark_of.result
    c.note.new.self c.link_behind.new.self c.enter.new.self c.place-at.ensures.node c.mark_of.ensures c.note.ensures
    c.link_behind.ensures c.enter.ensures
    (rw (← c.self.view_is) at c.requires.reserved) (rw (← c.self.view_is) at c.requires.free) c.self.invariant).shows
    ∙ ap (λ (z : Shown). record z {
      areas = fronted_in c.args.area (record { slot = c.args.slot.0; weight = c.args.weight }) z.areas;
    }) c.self.view_is
