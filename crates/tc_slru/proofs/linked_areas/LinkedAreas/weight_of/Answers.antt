use Rattle.std.proofs.Common.{arith, ap}
use Rattle.tc_slru.specs.Links.{links_of}
use Rattle.tc_slru.proofs.Taken.{held_shown, weighs_noted}
use Rattle.tc_slru.proofs.linked_areas.LinkedAreas.weight_of.Goals as goal

pub place-at-requires : goal.place-at-requires
place-at-requires c =
    let i = c.self.inside in
    let held = held_shown (links_of i.nodes) i.sizes c.args.slot.0 c.args.self.now
    c.self.view_is c.requires c.self.invariant in
    (omega arith, held.1.place.own)

pub node-requires : goal.node-requires
node-requires c =
    let i = c.self.inside in
    let held = held_shown (links_of i.nodes) i.sizes c.args.slot.0 c.args.self.now
    c.self.view_is c.requires c.self.invariant in
    (omega arith, rw c.place-at.ensures.node held.1.place.own)

pub returns : goal.returns
returns c =
    weighs_noted c.self.inside.nodes c.self.inside.sizes c.args.slot.0 c.args.self.now c.place-at.result
    c.node.result.note c.place-at.ensures.node c.node.ensures.note c.self.view_is c.requires
    c.self.invariant
