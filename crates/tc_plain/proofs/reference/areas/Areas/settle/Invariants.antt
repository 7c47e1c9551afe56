use Rattle.std.proofs.Common.{length}
use Rattle.tc_plain.specs.AreaLists.{areas_of, frequency_in}
use Rattle.tc_plain.proofs.Dropping.{IsAdmitting}
use Rattle.tc_plain.proofs.reference.areas.Areas.settle.Given as goal

abbrev pub invariant-loop-candidate : goal.invariant-loop-candidate
invariant-loop-candidate l =
    IsAdmitting (frequency_in l.sketch) l.fn.limits l.fn.evictions (areas_of l.fn.self) l.evictions l.self

abbrev pub decreases-loop-candidate : goal.decreases-loop-candidate
decreases-loop-candidate l = length l.self.window.items
