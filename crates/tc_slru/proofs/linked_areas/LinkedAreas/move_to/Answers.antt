use Rattle.std.proofs.Common.{arith, refl, ◌∙◌, ap, sym}
use Rattle.tc_model.specs.Areas.{total}
use Rattle.tc_ring.specs.Links as ring
use Rattle.tc_slru.specs.Links.{links_of}
use Rattle.tc_slru.specs.Slots.{placed, taken_out, without_slot, weigh}
use Rattle.tc_slru.specs.InAreas.{put_in}
use Rattle.tc_slru.proofs.Moved.{note_in, taken_on, moved_by, size_least}
use Rattle.tc_slru.proofs.Notes.{weight_noted, area_noted}
use Rattle.tc_slru.proofs.Put.{mark_within, count_fits}
use Rattle.tc_slru.proofs.Taken.{length-cut, held_shown, held_by}
use Rattle.tc_slru.proofs.linked_areas.LinkedAreas.move_to.Goals as goal

pub place-at-requires : goal.place-at-requires
place-at-requires c =
    let held = held_shown (links_of c.self.inside.nodes) c.self.inside.sizes c.args.held.slot.0 c.args.self.now c.self.view_is
    c.requires.held c.self.invariant in
    (omega arith, held.1.place.own)

pub node-node-requires : goal.node-node-requires
node-node-requires c =
    let held = held_shown (links_of c.self.inside.nodes) c.self.inside.sizes c.args.held.slot.0 c.args.self.now c.self.view_is
    c.requires.held c.self.invariant in
    (omega arith, rw c.place-at.ensures.node held.1.place.own)

pub unwrap-from-requires : goal.unwrap-from-requires
unwrap-from-requires c =
    let held = held_shown (links_of c.self.inside.nodes) c.self.inside.sizes c.args.held.slot.0 c.args.self.now c.self.view_is
    c.requires.held c.self.invariant in
    rw (area_noted c.node-node.result.note c.place-at.result c.self.inside.nodes c.node-node.ensures.note, c.place-at.ensures.node)
    (rw held.1.own_area refl)

pub move_behind-requires : goal.move_behind-requires
move_behind-requires c =
    let held = held_shown (links_of c.self.inside.nodes) c.self.inside.sizes c.args.held.slot.0 c.args.self.now c.self.view_is
    c.requires.held c.self.invariant in
    let on = taken_on c.unwrap-from.result c.self.inside.nodes c.self.inside.sizes c.args.held.slot.0 c.place-at.result
    c.node-node.result.note c.place-at.ensures.node c.node-node.ensures.note (sym c.unwrap-from.ensures)
    (rw (← c.self.view_is) at c.requires.held) c.self.invariant in
    let mark = mark_within c.args.area _ _ _ on.nodes in
    let long = length-cut c.self.inside.nodes.next c.self.inside.nodes.prev c.place-at.result in
    rw c.mark_of-mark.ensures (
      omega arith,
      (
        rw c.place-at.ensures.node held.1.place,
        (omega (arith, mark.0, long), omega (arith, mark.1, long)),
      ),
    )

pub count_moved-requires-clause-count : goal.count_moved-requires-clause-count
count_moved-requires-clause-count c =
    (held_by c.self.inside.nodes c.self.inside.sizes c.args.held.slot.0 c.args.self.now c.place-at.result c.node-node.result.note
    c.unwrap-from.result c.place-at.ensures.node c.node-node.ensures.note (sym c.unwrap-from.ensures) c.self.view_is
    c.requires.held c.self.invariant).count

pub count_moved-requires-clause-weight : goal.count_moved-requires-clause-weight
count_moved-requires-clause-weight c =
    rw (weight_noted c.node-node.result.note c.place-at.result c.self.inside.nodes c.node-node.ensures.note, c.place-at.ensures.node)
    ((held_by c.self.inside.nodes c.self.inside.sizes c.args.held.slot.0 c.args.self.now c.place-at.result c.node-node.result.note
    c.unwrap-from.result c.place-at.ensures.node c.node-node.ensures.note (sym c.unwrap-from.ensures) c.self.view_is
    c.requires.held c.self.invariant).weight)

pub count_moved-requires-clause-more : goal.count_moved-requires-clause-more
count_moved-requires-clause-more c =
    let on = taken_on c.unwrap-from.result c.self.inside.nodes c.self.inside.sizes c.args.held.slot.0 c.place-at.result
    c.node-node.result.note c.place-at.ensures.node c.node-node.ensures.note (sym c.unwrap-from.ensures)
    (rw (← c.self.view_is) at c.requires.held) c.self.invariant in
    let fits = count_fits c.args.area _ _ _ on.nodes in
    omega (
      arith,
      fits,
      c.place-at.ensures.few,
      length-cut c.self.inside.nodes.next c.self.inside.nodes.prev c.place-at.result,
    )

pub count_moved-requires-clause-heavier : goal.count_moved-requires-clause-heavier
count_moved-requires-clause-heavier c =
    let on = taken_on c.unwrap-from.result c.self.inside.nodes c.self.inside.sizes c.args.held.slot.0 c.place-at.result
    c.node-node.result.note c.place-at.ensures.node c.node-node.ensures.note (sym c.unwrap-from.ensures)
    (rw (← c.self.view_is) at c.requires.held) c.self.invariant in
    let least = size_least c.args.area _ _ _ on.nodes in
    omega (
      arith,
      least,
      c.requires.fits,
      ap (λ v. total weigh v.areas) on.shows,
      ap (λ t. total weigh (without_slot c.args.held.slot.0 t.areas)) c.self.view_is,
    )

pub invariant_of-self : goal.invariant_of-self
invariant_of-self c =
    let r = c.self.inside.nodes in
    let s = c.self.inside.sizes in
    let held = held_shown (links_of c.self.inside.nodes) c.self.inside.sizes c.args.held.slot.0 c.args.self.now c.self.view_is
    c.requires.held c.self.invariant in
    (moved_by c.unwrap-from.result c.args.area r s c.args.held.slot.0 c.place-at.result c.mark_of-mark.result
    c.args.held.weight c.node-node.result.note c.move_behind.new.self c.count_moved.new.sizes c.place-at.ensures.node
    c.mark_of-mark.ensures c.node-node.ensures.note (sym c.unwrap-from.ensures)
    c.move_behind.ensures
    c.count_moved.ensures
    (omega (arith, held.1.place.own)) (rw (← c.self.view_is) at c.requires.held) c.self.invariant).nodes

pub returns : goal.returns
returns c =
    let r = c.self.inside.nodes in
    let s = c.self.inside.sizes in
    let held = held_shown (links_of c.self.inside.nodes) c.self.inside.sizes c.args.held.slot.0 c.args.self.now c.self.view_is
    c.requires.held c.self.invariant in
    (moved_by c.unwrap-from.result c.args.area r s c.args.held.slot.0 c.place-at.result c.mark_of-mark.result
    c.args.held.weight c.node-node.result.note c.move_behind.new.self c.count_moved.new.sizes c.place-at.ensures.node
    c.mark_of-mark.ensures c.node-node.ensures.note (sym c.unwrap-from.ensures)
    c.move_behind.ensures
    c.count_moved.ensures
    (omega (arith, held.1.place.own)) (rw (← c.self.view_is) at c.requires.held) c.self.invariant).shows
    ∙ ap (λ t. put_in c.args.area (placed c.args.held.slot.0 c.args.held.weight) (taken_out c.args.held.slot.0 t))
    c.self.view_is
