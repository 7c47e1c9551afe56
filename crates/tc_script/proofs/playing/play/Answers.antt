use Rattle.std.proofs.Common.{◌≡◌, List, refl, sym, subst}
use Rattle.std.proofs.lemmas.Result.{IfOk-weaker}
use Rattle.tc_model.specs.Server.{run}
use Rattle.tc_core.specs.Sending.{IsPromised}
use Rattle.tc_core.specs.ServerMachine.{server_machine}
use Rattle.tc_core.specs.declared.outputs.Output.{Output}
use Rattle.tc_core.proofs.Promised.{is_promised}
use Rattle.tc_script.specs.Playing.{plan_steps, outputs_for}
use Rattle.tc_script.proofs.playing.play.Goals as goal

pub returns : goal.returns
returns g c =
    let script = c.args.script in
    let steps = plan_steps script in
    let kept = is_promised script.users steps (run server_machine script.users steps).world refl c.freshness.ensures
    c.advancing.ensures.twice c.advancing.ensures.first in
    record {
      promised = IfOk-weaker c.play_all.result (λ out. out ≡ outputs_for script) (λ out. IsPromised script.users steps out)
          (λ out h. subst (λ (o : List Output). IsPromised script.users steps o) (sym h) kept) c.play_all.ensures;
    }
