use Rattle.std.proofs.Common.{◌≡◌, ◌+◌, ◌-◌, replicate, sym, ◌∙◌, ap, arith}
use Rattle.tc_model.specs.Connection.{Act}
use Rattle.tc_model.specs.Server.{step, steps_from, On}
use Rattle.tc_core.specs.ServerMachine.{server_machine}
use Rattle.tc_script.proofs.Walks.{steps_from-replicate}
use Rattle.tc_script.proofs.playing.act_often.Goals as goal

pub loop-preserved : goal.loop-preserved
loop-preserved g c =
    let users = c.args.server.now.users in
    let act = On c.args.connection Act in
    let world : c.step.new.self.world ≡ step server_machine users c.loop.server.world act =
    c.in_ok-step.ensures.world ∙ ap (λ us. step server_machine us c.loop.server.world act) c.loop.invariant.users in
    record {
      users = c.in_ok-step.ensures.users ∙ c.loop.invariant.users;
      rest =
          ap (λ w. steps_from server_machine users w (replicate (c.args.count - (c.loop.counter + 1)) act)) world
          ∙ (sym (steps_from-replicate users c.loop.server.world c.args.count c.loop.counter act (omega arith))
          ∙ c.loop.invariant.rest);
    }
