use Rattle.std.specs.Prelude.{drop, map}
use Rattle.std.proofs.Common.{◌≡◌}
use Rattle.tc_partition.specs.LiveSlots.{live_of}
use Rattle.tc_partition.specs.Deferred.{IsAtRest}
use Rattle.tc_partition.specs.WaitingSlots.{waiting_of, IsDrained}
use Rattle.tc_partition.proofs.deferred_work.drain.Given as goal

abbrev pub invariant-loop-record : goal.invariant-loop-record
invariant-loop-record l = record {
  drained : IsDrained l.fn.live l.fn.waiting l.live l.waiting;
  rest : map (waiting_of l.live.held.slots) l.waiting
      ≡ drop l._record (map (waiting_of l.fn.live.held.slots) l.fn.waiting);
  rests : IsAtRest l.last (live_of l.live);
}
