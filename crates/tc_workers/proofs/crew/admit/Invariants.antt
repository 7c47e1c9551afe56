use Rattle.std.proofs.Common.{◌≡◌}
use Rattle.tc_workers.proofs.crew.admit.Given as goal

abbrev pub invariant-loop : goal.invariant-loop
invariant-loop g l = l.worker.desk ≡ l.fn.worker.desk
