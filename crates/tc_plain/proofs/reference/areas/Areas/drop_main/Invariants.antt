use Rattle.std.proofs.Common.{◌+◌, length}
use Rattle.tc_plain.proofs.Dropping.{IsDropping}
use Rattle.tc_plain.proofs.reference.areas.Areas.drop_main.Given as goal

abbrev pub invariant-loop-last : goal.invariant-loop-last
invariant-loop-last l = IsDropping l.fn.need l.fn.evictions l.fn.self l.need l.evictions l.self

abbrev pub decreases-loop-last : goal.decreases-loop-last
decreases-loop-last l = length l.self.probation.items + length l.self.protected.items
