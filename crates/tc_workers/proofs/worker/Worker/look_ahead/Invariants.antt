use Rattle.std.proofs.Common.{◌≡◌}
use Rattle.tc_workers.proofs.worker.Worker.look_ahead.Given as goal

abbrev pub invariant-loop-at : goal.invariant-loop-at
invariant-loop-at g l = l.self ≡ l.initial.self
