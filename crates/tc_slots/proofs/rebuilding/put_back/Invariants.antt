use Rattle.std.proofs.Common.{◌≡◌}
use Rattle.std.specs.Prelude.{vec_len}
use Rattle.tc_slots.specs.Rebuilt.{Fit, put_back}
use Rattle.tc_slots.proofs.rebuilding.put_back.Given as goal

abbrev pub invariant-loop-entry : goal.invariant-loop-entry
invariant-loop-entry l =
    (l.slots.limits ≡ l.initial.slots.limits)
    × Fit l.initial.slots.limits l.entries.items l.slots.areas
    × (put_back l.fn.area l.entries.items l.slots.areas ≡ put_back l.fn.area l.fn.entries.items l.initial.slots.areas)

abbrev pub decreases-loop-entry : goal.decreases-loop-entry
decreases-loop-entry l = vec_len l.entries
