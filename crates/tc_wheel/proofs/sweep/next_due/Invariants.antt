use Rattle.tc_wheel.proofs.Walked.{Seeks}
use Rattle.tc_wheel.proofs.sweep.next_due.Given as goal

abbrev pub invariant-loop-step : goal.invariant-loop-step
invariant-loop-step l = Seeks l.moment l._step-end l._step l.nodes l.at
