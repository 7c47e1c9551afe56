use Rattle.std.specs.Prelude.{map}
use Rattle.std.proofs.Common.{◌≡◌, drop}
use Rattle.tc_model.specs.Server.{steps_from, run}
use Rattle.tc_core.specs.ServerMachine.{server_machine}
use Rattle.tc_core.specs.Steps.{step_of}
use Rattle.tc_core.proofs.running.run.Given as goal

-- what is left leads from here to where all steps lead
abbrev pub invariant-loop-step : goal.invariant-loop-step
invariant-loop-step g l = record {
  users : l.server.users ≡ l.fn.users;
  rest : steps_from server_machine l.fn.users l.server.world (map step_of (drop l.step-index l.steps))
      ≡ (run server_machine l.fn.users (map step_of l.steps)).world;
}
