use Rattle.std.specs.Prelude.{vec_capacity}
use Rattle.std.proofs.Common.{◌≡◌, ◌+◌, ◌≤◌, length, take}
use Rattle.tc_plain.specs.EvictionState.{at_moment}
use Rattle.tc_plain.specs.Doing.{all_looked_up}
use Rattle.tc_plain.specs.AreaLists.{change_of}
use Rattle.tc_partition.specs.LiveSlots.{live_of}
use Rattle.tc_partition.specs.Seeking.{SeekSlots}
use Rattle.tc_partition.proofs.looking.seek_many.Given as goal

abbrev pub invariant-loop-i : goal.invariant-loop-i
invariant-loop-i l = record {
  shown : l.hits.items ≡ (all_looked_up (change_of l.fn.due) (take l.i l.keys) (at_moment l.moment (live_of l.live))).0;
  found : SeekSlots l.moment (take l.i l.keys) l.places.items l.live;
  hit_room : length l.hits.items + length l.keys ≤ vec_capacity l.hits + l.i;
  place_room : length l.places.items + length l.keys ≤ l.places.capacity + l.i;
}
