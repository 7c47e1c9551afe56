use Rattle.std.proofs.Common.{length}
use Rattle.tc_plain.proofs.Weighed.{IsHolding}
use Rattle.tc_plain.proofs.reference.areas.Areas.hold_protected.Given as goal

abbrev pub invariant-loop-last : goal.invariant-loop-last
invariant-loop-last l = IsHolding l.most l.fn.self l.self

abbrev pub decreases-loop-last : goal.decreases-loop-last
decreases-loop-last l = length l.self.protected.items
