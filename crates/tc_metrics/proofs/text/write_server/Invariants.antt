use Rattle.std.specs.List.{flat_map}
use Rattle.std.proofs.Common.{◌≡◌, ◌++◌, take}
use Rattle.tc_metrics.specs.MetricsText.{own_text}
use Rattle.tc_metrics.proofs.text.write_server.Given as goal

abbrev pub invariant-loop-metric : goal.invariant-loop-metric
invariant-loop-metric l = l.out.items ≡ l.fn.out.items ++ flat_map (own_text l.server) (take l.metric-index l.metrics)
