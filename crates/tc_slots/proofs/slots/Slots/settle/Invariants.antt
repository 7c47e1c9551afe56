use Rattle.tc_slots.specs.Held.{filled}
use Rattle.tc_slots.proofs.Drops.{IsSettling}
use Rattle.tc_slots.proofs.slots.Slots.settle.Given as goal

abbrev pub invariant-loop-evictions : goal.invariant-loop-evictions
invariant-loop-evictions l = IsSettling l.sketch l.fn.self l.self l.fn.evictions l.evictions

abbrev pub decreases-loop-evictions : goal.decreases-loop-evictions
decreases-loop-evictions l = filled l.self.slots
