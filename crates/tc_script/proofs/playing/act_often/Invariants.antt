use Rattle.std.proofs.Common.{◌≡◌, ◌-◌, replicate}
use Rattle.tc_model.specs.Connection.{Act}
use Rattle.tc_model.specs.Server.{steps_from, On}
use Rattle.tc_core.specs.ServerMachine.{server_machine}
use Rattle.tc_script.proofs.playing.act_often.Given as goal

-- the acts that are left lead from here to where all lead
abbrev pub invariant-loop : goal.invariant-loop
invariant-loop g l = record {
  users : l.server.users ≡ l.fn.server.users;
  rest : steps_from server_machine l.fn.server.users l.server.world (replicate (l.count - l.counter) (On l.connection Act))
      ≡ steps_from server_machine l.fn.server.users l.fn.server.world (replicate l.count (On l.connection Act));
}
