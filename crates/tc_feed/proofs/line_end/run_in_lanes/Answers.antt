use Rattle.std.proofs.Common.{refl, arith}
use Rattle.std.proofs.lemmas.Simd.{zip2_splat, length-chunk}
use lib.Lanes.{chunk}
use Rattle.tc_item.proofs.Runs.{run_in}
use Rattle.tc_feed.specs.Looking.{is_inside}
use Rattle.tc_feed.proofs.line_end.run_in_lanes.Goals as goal

pub returns : goal.returns
returns c =
    let v = chunk c.args.at 16 c.args.bytes.now in
    let long = length-chunk c.args.at 16 c.args.bytes.now c.requires in
    run_in is_inside c.args.bytes.now c.args.at 16 _ _ c.requires (omega arith) c.type_inv.bytes c.lowest_set.ensures _
    (zip2_splat _ v 16 10 long) refl
