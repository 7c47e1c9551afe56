use Rattle.std.proofs.Common.{arith, ap}
use Rattle.tc_slru.specs.Links.{links_of}
use Rattle.tc_slru.proofs.Taken.{held_shown}
use Rattle.tc_slru.proofs.linked_areas.LinkedAreas.read.Goals as goal

pub place-at-requires : goal.place-at-requires
place-at-requires c =
    let i = c.self.inside in
    let held = held_shown (links_of i.nodes) i.sizes c.args.slot.0 c.args.self.now
    c.self.view_is c.requires c.self.invariant in
    (omega arith, held.1.place.own)

pub read-requires : goal.read-requires
read-requires c =
    let i = c.self.inside in
    let held = held_shown (links_of i.nodes) i.sizes c.args.slot.0 c.args.self.now
    c.self.view_is c.requires c.self.invariant in
    (omega arith, rw c.place-at.ensures.node held.1.place)
