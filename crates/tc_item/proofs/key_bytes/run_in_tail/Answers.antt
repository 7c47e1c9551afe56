use Rattle.std.proofs.Common.{◌≡◌, ◌-◌, ◌+◌, ◌∙◌, length, take, drop, ap, sym, arith}
use Rattle.std.proofs.lemmas.List.{take_all, length-drop}
use Rattle.std.specs.List.{prefix_len}
use Rattle.tc_item.specs.KeyRule.{is_key_byte}
use Rattle.tc_item.proofs.Runs.{run_ends, run_behind}
use Rattle.tc_item.proofs.key_bytes.run_in_tail.Goals as goal

pub returns-then-run-lt-HALF_LANES-clause-value : goal.returns-then-run-lt-HALF_LANES-clause-value
returns-then-run-lt-HALF_LANES-clause-value c =
    c.run_in_half-run.ensures.value
    ∙ sym (run_ends is_key_byte c.args.bytes.now 0 8 (omega arith) (omega (arith, c.run_in_half-run.ensures.value)))

pub returns-clause-value : goal.returns-clause-value
returns-clause-value c =
    let xs = c.args.bytes.now in
    let last = length xs - 8 in
    let long = length-drop last xs in
    let all : prefix_len is_key_byte (take 8 xs) ≡ 8 =
    omega (arith, c.run_in_half-run.ensures.value, c.run_in_half-run.ensures.within) in
    ap (λ n. last + n) (c.run_in_half.ensures.value ∙ ap (prefix_len is_key_byte) (take_all 8 (drop last xs) (omega (arith, long))))
    ∙ run_behind is_key_byte xs last 8 (omega arith) (omega arith) all
