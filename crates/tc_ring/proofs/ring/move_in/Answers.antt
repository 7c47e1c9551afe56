use Rattle.std.specs.Prelude.{slice_set, slice_index_or}
use Rattle.std.proofs.Common.{◌<◌, ap, ◌∙◌, arith, length}
use Rattle.tc_ring.specs.Links.{linked_behind, noted}
use Rattle.tc_ring.specs.Nodes.{links}
use Rattle.tc_ring.specs.declared.ring.Node.{Node}
use Rattle.tc_ring.proofs.Writes.{next_written, node_written, prev_written, linked_by, field_read}
use Rattle.tc_ring.proofs.ring.move_in.Goals as goal

pub returns : goal.returns
returns g c =
    let at = c.args.at in
    let before = c.args.before in
    let us = c.unlink_in.new.nodes in
    let first = slice_index_or us before c.index-nodes-before.result in
    let v = slice_index_or us before c.index-nodes-before-2.result in
    let ps = slice_set us before (record v { next = at }) in
    let x : Node g.row.N.Denot = record { next = first.next; prev = before; note = c.args.note } in
    let qs = slice_set ps at x in
    let w = slice_index_or qs first.next c.index-nodes-after.result in
    let small : before < length us = omega (arith, c.requires.before, c.unlink_in.auto.nodes) in
    prev_written qs first.next at w (ap (λ d. slice_index_or qs first.next d) c.index-nodes-after.is)
    ∙ linked_by at before first.next c.args.note (links us) (links ps) (links qs)
    (field_read (λ n. n.next) us before first 0 small (ap (λ d. slice_index_or us before d) c.index-nodes-before.is))
    (next_written us before at v (ap (λ d. slice_index_or us before d) c.index-nodes-before-2.is)) (node_written ps at x)
    ∙ ap (λ l. noted at c.args.note (linked_behind before at l)) c.unlink_in.ensures
