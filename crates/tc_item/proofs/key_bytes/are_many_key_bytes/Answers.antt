use Rattle.std.proofs.Common.{◌≡◌, ◌-◌, ◌∙◌, length, sym, ap, eqb, arith, inl, inr}
use Rattle.std.proofs.lemmas.Bool.{cases_lt}
use Rattle.tc_item.specs.KeyRule.{is_key_byte}
use Rattle.tc_item.proofs.Runs.{run_passes, run_fails, last_decides}
use Rattle.tc_item.proofs.key_bytes.are_many_key_bytes.Goals as goal

pub returns-then-run_in_lanes-lt-LANES : goal.returns-then-run_in_lanes-lt-LANES
returns-then-run_in_lanes-lt-LANES c =
    sym (run_fails is_key_byte c.args.bytes.now c.loop-at.at 16 (omega arith) (omega (arith, c.run_in_lanes.ensures.value)))

pub loop-at-preserved : goal.loop-at-preserved
loop-at-preserved c =
    let all : c.run_in_lanes.result ≡ 16 = omega (arith, c.run_in_lanes.ensures.within) in
    let passes = run_passes is_key_byte c.args.bytes.now c.loop-at.at 16 (omega arith)
    (omega (arith, all, c.run_in_lanes.ensures.value)) in (
      omega arith,
      λ k below. elim (cases_lt k c.loop-at.at)
          [ inl early ↦ c.loop-at.invariant.1 k early | inr late ↦ passes k (omega arith) below ],
    )

pub returns : goal.returns
returns c =
    let xs = c.args.bytes.now in
    ap (λ n. eqb n 16) c.run_in_lanes-2.ensures.value
    ∙ last_decides is_key_byte xs (length xs - 16) 16 c.loop-at.at (omega arith) (omega arith) c.loop-at.invariant.1
