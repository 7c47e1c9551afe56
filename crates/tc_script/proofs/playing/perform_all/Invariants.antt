use Rattle.std.specs.List.{flat_map}
use Rattle.std.proofs.Common.{◌≡◌, drop}
use Rattle.tc_model.specs.Server.{steps_from}
use Rattle.tc_core.specs.ServerMachine.{server_machine}
use Rattle.tc_script.specs.Playing.{steps_of}
use Rattle.tc_script.proofs.playing.perform_all.Given as goal

-- the actions that are left lead from here to where all lead
abbrev pub invariant-loop-action : goal.invariant-loop-action
invariant-loop-action g l = record {
  users : l.server.users ≡ l.fn.server.users;
  rest : steps_from server_machine l.fn.server.users l.server.world (flat_map steps_of (drop l.action-index l.actions))
      ≡ steps_from server_machine l.fn.server.users l.fn.server.world (flat_map steps_of l.actions);
}
