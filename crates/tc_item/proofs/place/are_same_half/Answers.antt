use Rattle.std.specs.Prelude.{not}
use Rattle.std.proofs.Common.{◌∙◌, ◌%◌, ◌^◌, ap, eqb, w8, arith}
use Rattle.std.proofs.lemmas.Simd.{tops_compared, length-chunk}
use Rattle.tc_item.proofs.Places.{no_lane_differs}
use lib.Lanes.{chunk, mask_l}
use Rattle.tc_item.proofs.place.are_same_half.Goals as goal

pub returns : goal.returns
returns c =
    let at = c.args.at in
    let xs = c.args.one.now in
    let ys = c.args.other.now in
    ap (λ ms. eqb (mask_l ms % 2 ^ 64) 0) (tops_compared w8 (λ a b. not (eqb a b)) (chunk at 8 xs) (chunk at 8 ys))
    ∙ no_lane_differs 8 (chunk at 8 xs) (chunk at 8 ys) (omega arith) (length-chunk at 8 xs c.requires.one)
    (length-chunk at 8 ys c.requires.other)
