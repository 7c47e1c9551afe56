use Rattle.std.proofs.Common.{arith, refl, ap, sym}
use Rattle.tc_slru.specs.Links.{links_of}
use Rattle.tc_slru.proofs.Notes.{area_noted}
use Rattle.tc_slru.proofs.Taken.{held_shown, held_by}
use Rattle.tc_slru.proofs.linked_areas.LinkedAreas.area_of.Goals as goal

pub place-at-requires : goal.place-at-requires
place-at-requires c =
    let held = held_shown (links_of c.self.inside.nodes) c.self.inside.sizes c.args.slot.0 c.args.self.now c.self.view_is
    c.requires c.self.invariant in
    (omega arith, held.1.place.own)

pub node-requires : goal.node-requires
node-requires c =
    let held = held_shown (links_of c.self.inside.nodes) c.self.inside.sizes c.args.slot.0 c.args.self.now c.self.view_is
    c.requires c.self.invariant in
    (omega arith, rw c.place-at.ensures.node held.1.place.own)

pub unwrap-requires : goal.unwrap-requires
unwrap-requires c =
    let held = held_shown (links_of c.self.inside.nodes) c.self.inside.sizes c.args.slot.0 c.args.self.now c.self.view_is
    c.requires c.self.invariant in
    rw (area_noted c.node.result.note c.place-at.result c.self.inside.nodes c.node.ensures.note, c.place-at.ensures.node)
    (rw held.1.own_area refl)

pub returns : goal.returns
returns c =
    (held_by c.self.inside.nodes c.self.inside.sizes c.args.slot.0 c.args.self.now c.place-at.result c.node.result.note
    c.unwrap.result c.place-at.ensures.node c.node.ensures.note (sym c.unwrap.ensures) c.self.view_is c.requires
    c.self.invariant).shown
