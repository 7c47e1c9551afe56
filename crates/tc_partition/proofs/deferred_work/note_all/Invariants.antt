use Rattle.std.proofs.Common.{◌≡◌, ◌++◌, drop, length}
use Rattle.tc_partition.specs.WaitingSlots.{IsDrained}
use Rattle.tc_partition.specs.Seeking.{all_noted}
use Rattle.tc_partition.specs.FastState.{waits_after}
use Rattle.tc_partition.proofs.deferred_work.note_all.Given as goal

abbrev pub invariant-loop-i : goal.invariant-loop-i
invariant-loop-i l = record {
  drained : IsDrained l.fn.live (l.fn.waiting ++ all_noted l.hashes l.found l.moment) l.live
      (l.waiting ++ all_noted (drop l.i l.hashes) (drop l.i l.found) l.moment);
  waits : length l.waiting ≡ waits_after l.i (length l.fn.waiting);
}
