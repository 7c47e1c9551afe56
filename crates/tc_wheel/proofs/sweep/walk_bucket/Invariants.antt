use Rattle.tc_wheel.proofs.Walked.{Walks}
use Rattle.tc_wheel.proofs.sweep.walk_bucket.Given as goal

abbrev pub invariant-loop-step : goal.invariant-loop-step
invariant-loop-step l = Walks l.moment l.back l._step-end l._step l.fn.nodes l.nodes l.at
