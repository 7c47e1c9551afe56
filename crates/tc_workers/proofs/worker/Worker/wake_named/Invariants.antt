use Rattle.tc_workers.specs.Between.{Changes}
use Rattle.tc_workers.proofs.worker.Worker.wake_named.Given as goal

-- connections that could not be listed were dropped
abbrev pub invariant-loop : goal.invariant-loop
invariant-loop g l = Changes l.initial.self l.self
