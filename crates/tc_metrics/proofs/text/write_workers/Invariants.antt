use Rattle.std.specs.List.{flat_map}
use Rattle.std.proofs.Common.{◌≡◌, ◌++◌, take}
use Rattle.tc_metrics.specs.MetricsText.{worker_line}
use Rattle.tc_metrics.proofs.text.write_workers.Given as goal

abbrev pub invariant-loop-worker : goal.invariant-loop-worker
invariant-loop-worker l = l.out.items ≡ l.fn.out.items ++ flat_map (worker_line l.metric) (take l.worker-index l.workers)
