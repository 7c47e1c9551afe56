use Rattle.std.proofs.Common.{◌≡◌, ◌+◌, ◌≤◌, drop}
use Rattle.tc_session.specs.Room.{room_of}
use Rattle.tc_session.proofs.values.room_to_compose.Given as goal

abbrev pub invariant-loop-hit : goal.invariant-loop-hit
invariant-loop-hit l = record {
  room : l.room + room_of (drop l.hit-index l.hits) ≡ room_of l.hits + 5;
  few : l.room ≤ 1100000;
}
