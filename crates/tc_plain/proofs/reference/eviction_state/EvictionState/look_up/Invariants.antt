use Rattle.std.specs.Prelude.{vec_capacity}
use Rattle.std.proofs.Common.{◌≡◌, ◌+◌, ◌≤◌, length, take}
use Rattle.tc_plain.specs.EvictionState.{at_moment}
use Rattle.tc_plain.specs.Doing.{all_looked_up}
use Rattle.tc_plain.specs.AreaLists.{live_of, change_of}
use Rattle.tc_plain.proofs.reference.eviction_state.EvictionState.look_up.Given as goal

abbrev pub invariant-loop-i : goal.invariant-loop-i
invariant-loop-i l = record {
  shown : l.hits.items ≡ (all_looked_up (change_of l.fn.due) (take l.i l.keys) (at_moment l.fn.moment (live_of l.self))).0;
  room : length l.hits.items + length l.keys ≤ vec_capacity l.hits + l.i;
}
