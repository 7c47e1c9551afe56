use Rattle.std.specs.List.{flat_map}
use Rattle.std.proofs.Common.{◌≡◌, ◌+◌, drop, get_or, sym, ◌∙◌, ap, arith}
use Rattle.tc_model.specs.Server.{steps_from}
use Rattle.tc_core.specs.ServerMachine.{server_machine}
use Rattle.tc_script.specs.Playing.{steps_of}
use Rattle.tc_script.proofs.Walks.{steps_from-actions}
use Rattle.tc_script.proofs.playing.perform_all.Goals as goal

pub loop-action-preserved : goal.loop-action-preserved
loop-action-preserved g c =
    let users = c.args.server.now.users in
    let actions = c.args.actions.now in
    let w = c.loop-action.server.world in
    let i = c.loop-action.action-index in
    let action = c.action-item.result in
    let world : c.perform.new.server.world ≡ steps_from server_machine users w (steps_of (get_or actions i action)) =
    c.in_ok-perform.ensures.world
    ∙ (ap (λ us. steps_from server_machine us w (steps_of action)) c.loop-action.invariant.users
    ∙ ap (λ a. steps_from server_machine users w (steps_of a)) c.action-item.is) in
    record {
      users = c.in_ok-perform.ensures.users ∙ c.loop-action.invariant.users;
      rest =
          ap (λ v. steps_from server_machine users v (flat_map steps_of (drop (i + 1) actions))) world
          ∙ (sym (steps_from-actions users w actions i action (omega arith)) ∙ c.loop-action.invariant.rest);
    }
