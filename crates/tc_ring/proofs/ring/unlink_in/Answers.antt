use Rattle.std.specs.Prelude.{slice_set, slice_index_or}
use Rattle.std.proofs.Common.{◌<◌, ap, ◌∙◌, arith, length}
use Rattle.std.proofs.lemmas.List.{length-map}
use Rattle.tc_ring.specs.Nodes.{links}
use Rattle.tc_ring.proofs.Writes.{next_written, prev_written, unlinked_by, field_read}
use Rattle.tc_ring.proofs.ring.unlink_in.Goals as goal

pub returns : goal.returns
returns g c =
    let ns = c.args.nodes.now in
    let n = c.index-nodes-at.result in
    let v = slice_index_or ns n.prev c.index-nodes-node.result in
    let ms = slice_set ns n.prev (record v { next = n.next }) in
    let w = slice_index_or ms n.next c.index-nodes-node-2.result in
    let small : c.args.at < length ns = omega (arith, c.requires.own, length-map ns (λ n. n.next)) in
    prev_written ms n.next n.prev w (ap (λ d. slice_index_or ms n.next d) c.index-nodes-node-2.is)
    ∙ unlinked_by c.args.at n.prev n.next (links ns) (links ms)
    (field_read (λ n. n.prev) ns c.args.at n 0 small c.index-nodes-at.is)
    (field_read (λ n. n.next) ns c.args.at n 0 small c.index-nodes-at.is)
    (next_written ns n.prev n.next v (ap (λ d. slice_index_or ns n.prev d) c.index-nodes-node.is))
