use Rattle.std.proofs.Common.{◌≡◌, ◌≤◌}
use Rattle.tc_wheel.specs.Kept.{IsSwept}
use Rattle.tc_wheel.proofs.sweep.find_due.Given as goal

abbrev pub invariant-loop-left : goal.invariant-loop-left
invariant-loop-left l = record {
  fewer : l.left ≤ l.fn.left;
  swept : IsSwept 4096 l.now l.left l.nodes;
  dues : l.nodes.notes ≡ l.fn.nodes.notes;
}

abbrev pub decreases-loop-left : goal.decreases-loop-left
decreases-loop-left l = l.left
