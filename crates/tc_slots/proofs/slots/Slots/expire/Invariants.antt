use Rattle.tc_slots.specs.Held.{filled}
use Rattle.tc_slots.proofs.Kept.{IsExpiring}
use Rattle.tc_slots.proofs.slots.Slots.expire.Given as goal

abbrev pub invariant-loop-moment : goal.invariant-loop-moment
invariant-loop-moment l = IsExpiring l.moment l.fn.self l.self

abbrev pub decreases-loop-moment : goal.decreases-loop-moment
decreases-loop-moment l = filled l.self.slots
