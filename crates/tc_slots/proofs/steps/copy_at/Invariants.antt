use Rattle.std.proofs.Common.{◌≡◌, take}
use Rattle.slab.specs.Slab.{get as slab_get}
use Rattle.tc_plain.specs.BySlot.{entries_at}
use Rattle.tc_slots.proofs.steps.copy_at.Given as goal

abbrev pub invariant-loop-i : goal.invariant-loop-i
invariant-loop-i l = l.copied.items ≡ entries_at (slab_get l.entries) (take l.i l.slots)
