use Rattle.std.specs.List.{flat_map}
use Rattle.std.proofs.Common.{◌≡◌, ◌++◌, take}
use Rattle.tc_metrics.specs.MetricsText.{worker_text}
use Rattle.tc_metrics.proofs.text.write_worker_metrics.Given as goal

abbrev pub invariant-loop-metric : goal.invariant-loop-metric
invariant-loop-metric l = l.out.items ≡ l.fn.out.items ++ flat_map (worker_text l.workers) (take l.metric-index l.metrics)
