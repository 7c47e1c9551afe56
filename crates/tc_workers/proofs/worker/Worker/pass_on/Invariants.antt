use Rattle.tc_workers.specs.Between.{Changes}
use Rattle.tc_workers.proofs.worker.Worker.pass_on.Given as goal

-- connections were passed on, or came back
abbrev pub invariant-loop : goal.invariant-loop
invariant-loop g l = Changes l.initial.self l.self
