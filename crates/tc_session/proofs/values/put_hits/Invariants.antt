use Rattle.std.specs.List.{flat_map}
use Rattle.std.proofs.Common.{◌≡◌, ◌++◌, ◌+◌, ◌≤◌, take, drop, length}
use Rattle.tc_session.specs.Replies.{value_text}
use Rattle.tc_session.specs.Room.{room_of}
use Rattle.tc_session.proofs.values.put_hits.Given as goal

abbrev pub invariant-loop-hit : goal.invariant-loop-hit
invariant-loop-hit l = record {
  written : take l.end l.text ≡ take l.at l.fn.text ++ flat_map (value_text l.form) (take l.hit-index l.hits);
  near : l.end + room_of (drop l.hit-index l.hits) ≤ l.at + room_of l.hits;
  room : l.end + room_of (drop l.hit-index l.hits) ≤ length l.text;
}
