use Rattle.std.proofs.Common.{◌≡◌, [], take, drop}
use Rattle.tc_users.specs.Faults.{fault_after}
use Rattle.tc_users.proofs.checks.check_rows.Given as goal

abbrev pub invariant-loop-i : goal.invariant-loop-i
invariant-loop-i l = fault_after [] l.rows ≡ fault_after (take l.i l.rows) (drop l.i l.rows)
