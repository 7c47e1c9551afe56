use Rattle.std.proofs.Common.{refl, arith}
use Rattle.std.proofs.lemmas.Simd.{zip2_splat, length-chunk}
use Rattle.std.proofs.lemmas.List.Sums.{prefix_len-le-length}
use lib.Lanes.{chunk}
use Rattle.tc_item.specs.KeyRule.{is_key_byte}
use Rattle.tc_item.proofs.Runs.{joined, run_in}
use Rattle.tc_item.proofs.key_bytes.run_in_half.Goals as goal

pub returns-clause-value : goal.returns-clause-value
returns-clause-value c =
    let v = chunk c.args.at 8 c.args.bytes.now in
    let long = length-chunk c.args.at 8 c.args.bytes.now c.requires in
    run_in is_key_byte c.args.bytes.now c.args.at 8 _ _ c.requires (omega arith) c.type_inv.bytes c.lowest_set.ensures _
    (joined _ _ _ v (zip2_splat _ v 8 33 long) (zip2_splat _ v 8 127 long)) refl

pub returns-clause-within : goal.returns-clause-within
returns-clause-within c =
    let v = chunk c.args.at 8 c.args.bytes.now in
    let long = length-chunk c.args.at 8 c.args.bytes.now c.requires in
    rw (returns-clause-value c) (omega (arith, long, prefix_len-le-length is_key_byte v))
