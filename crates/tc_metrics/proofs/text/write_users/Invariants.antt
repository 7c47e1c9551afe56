use Rattle.std.specs.List.{flat_map}
use Rattle.std.proofs.Common.{◌≡◌, ◌++◌, take}
use Rattle.tc_metrics.specs.MetricsText.{user_line}
use Rattle.tc_metrics.proofs.text.write_users.Given as goal

abbrev pub invariant-loop-user : goal.invariant-loop-user
invariant-loop-user l = l.out.items ≡ l.fn.out.items ++ flat_map (user_line l.metric) (take l.user-index l.users)
