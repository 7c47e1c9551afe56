use Rattle.std.specs.Prelude.{map}
use Rattle.std.proofs.Common.{◌≡◌, take}
use Rattle.tc_plain.specs.AreaLists.{live_of, HasRoom}
use Rattle.tc_partition.specs.Deferred.{replay}
use Rattle.tc_partition.specs.WaitingSlots.{waiting_of}
use Rattle.tc_partition.proofs.freezing.replay.Given as goal

abbrev pub invariant-loop-place : goal.invariant-loop-place
invariant-loop-place l = record {
  live : live_of l.live ≡ replay (live_of l.fn.live) (take l.place (map (waiting_of l.slots.slots) l.waiting));
  room : HasRoom 0 l.live.areas;
}
