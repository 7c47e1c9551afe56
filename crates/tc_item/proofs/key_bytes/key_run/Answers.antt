use Rattle.std.proofs.Common.{◌≡◌, ◌∙◌, arith}
use Rattle.tc_item.specs.KeyRule.{is_key_byte}
use Rattle.tc_item.proofs.Runs.{run_past, run_ends}
use Rattle.tc_item.proofs.key_bytes.key_run.Goals as goal

pub returns-then-run-lt-LANES-clause-value : goal.returns-then-run-lt-LANES-clause-value
returns-then-run-lt-LANES-clause-value c =
    let ends = run_ends is_key_byte c.args.bytes.now c.loop-at.at 16 (omega arith)
    (omega (arith, c.run_in_lanes-run.ensures.value)) in
    omega (arith, ends, c.loop-at.invariant.1, c.run_in_lanes-run.ensures.value)

pub loop-at-preserved : goal.loop-at-preserved
loop-at-preserved c =
    let all : c.run_in_lanes-run.result ≡ 16 = omega (arith, c.run_in_lanes-run.ensures.within) in
    let past = run_past is_key_byte c.args.bytes.now c.loop-at.at 16 (omega arith)
    (omega (arith, all, c.run_in_lanes-run.ensures.value)) in
    rw all (omega arith, past ∙ c.loop-at.invariant.1)
