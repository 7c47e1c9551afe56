use Rattle.std.proofs.Common.{◌-◌, ◌∙◌, length, ap, eqb, arith}
use Rattle.tc_item.specs.KeyRule.{is_key_byte}
use Rattle.tc_item.proofs.Runs.{run_passes, last_decides}
use Rattle.tc_item.proofs.key_bytes.are_few_key_bytes.Goals as goal

pub returns-then-run_in_half-eq-HALF_LANES : goal.returns-then-run_in_half-eq-HALF_LANES
returns-then-run_in_half-eq-HALF_LANES c =
    let xs = c.args.bytes.now in
    let all = run_passes is_key_byte xs 0 8 (omega arith) (omega (arith, c.run_in_half.ensures.value)) in
    ap (λ n. eqb n 8) c.run_in_half-then-run_in_half-eq-HALF_LANES.ensures.value
    ∙ last_decides is_key_byte xs (length xs - 8) 8 8 (omega arith) (omega arith) (λ k below. all k (omega arith) below)
