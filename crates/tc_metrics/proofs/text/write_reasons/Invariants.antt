use Rattle.std.specs.List.{flat_map}
use Rattle.std.proofs.Common.{◌≡◌, ◌++◌, take}
use Rattle.tc_metrics.specs.MetricsText.{closed_line}
use Rattle.tc_metrics.proofs.text.write_reasons.Given as goal

abbrev pub invariant-loop-reason : goal.invariant-loop-reason
invariant-loop-reason l = l.out.items ≡ l.fn.out.items ++ flat_map (closed_line l.user) (take l.reason-index l.reasons)
