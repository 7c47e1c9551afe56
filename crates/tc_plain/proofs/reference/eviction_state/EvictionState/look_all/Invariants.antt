use Rattle.std.proofs.Common.{◌≡◌, take}
use Rattle.tc_plain.specs.Doing.{all_looked_up}
use Rattle.tc_plain.specs.AreaLists.{live_of, HasRoom, change_of}
use Rattle.tc_plain.proofs.reference.eviction_state.EvictionState.look_all.Given as goal

abbrev pub invariant-loop-key : goal.invariant-loop-key
invariant-loop-key l = record {
  live : live_of l.self ≡ (all_looked_up (change_of l.due) (take l.key-index l.keys) (live_of l.fn.self)).1;
  room : HasRoom 0 l.self.areas;
}
