use Rattle.std.specs.Prelude.{map, IfOk}
use Rattle.std.proofs.Common.{◌≡◌, arith}
use Rattle.std.proofs.lemmas.Result.{IfOk-weaker}
use Rattle.tc_core.specs.Steps.{step_of}
use Rattle.tc_core.specs.Sending.{output_of, IsRun, IsIsolatedRun, IsUntouchedRun, IsIndifferentRun, IsFreshRun, IsPromised}
use Rattle.tc_core.proofs.Promised.{promised-ended}
use Rattle.tc_core.proofs.running.run.Goals as goal

pub returns : goal.returns
returns g c =
    let users = c.args.users in
    let steps = map step_of c.args.steps.now in
    let kept : IfOk c.outputs.result (λ out. IsPromised users steps out) =
    IfOk-weaker c.outputs.result (λ out. out ≡ map output_of c.loop-step.server.world.connections)
    (λ out. IsPromised users steps out)
    (λ out same. promised-ended users c.args.steps.now c.loop-step.server.world c.loop-step.step-index
    (omega arith) c.loop-step.invariant.rest
    c.freshness.ensures c.advancing.ensures.twice c.advancing.ensures.first out same)
    c.outputs.ensures in
    record {
      sent =
          IfOk-weaker c.outputs.result (λ out. IsPromised users steps out) (λ out. IsRun users steps out) (λ out h. h.sent) kept;
      isolated =
          IfOk-weaker c.outputs.result (λ out. IsPromised users steps out) (λ out. IsIsolatedRun users steps out)
          (λ out h. h.isolated) kept;
      untouched =
          IfOk-weaker c.outputs.result (λ out. IsPromised users steps out) (λ out. IsUntouchedRun users steps out)
          (λ out h. h.untouched) kept;
      indifferent =
          IfOk-weaker c.outputs.result (λ out. IsPromised users steps out) (λ out. IsIndifferentRun users steps out)
          (λ out h. h.indifferent) kept;
      fresh =
          IfOk-weaker c.outputs.result (λ out. IsPromised users steps out) (λ out. IsFreshRun users steps out)
          (λ out h. h.fresh) kept;
    }
