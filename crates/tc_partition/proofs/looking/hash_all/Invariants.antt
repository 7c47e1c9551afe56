use Rattle.std.proofs.Common.{◌+◌, ◌≤◌, length, take}
use Rattle.tc_partition.specs.Seeking.{AreHashed}
use Rattle.tc_partition.proofs.looking.hash_all.Given as goal

abbrev pub invariant-loop-key : goal.invariant-loop-key
invariant-loop-key l = record {
  hashed : AreHashed (take l.key-index l.keys) l.all.items;
  room : length l.all.items + length l.keys ≤ l.all.capacity + l.key-index;
}
