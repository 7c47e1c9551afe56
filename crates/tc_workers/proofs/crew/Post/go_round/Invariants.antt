use Rattle.std.proofs.Common.{◌≡◌}
use Rattle.tc_workers.proofs.crew.Post.go_round.Given as goal

abbrev pub invariant-loop : goal.invariant-loop
invariant-loop g l = l.worker.desk.seat.number ≡ l.fn.worker.desk.seat.number
