use Rattle.std.specs.Prelude.{sum_by}
use Rattle.std.proofs.Common.{◌≡◌, take}
use Rattle.tc_plain.specs.Entries.{weight}
use Rattle.tc_plain.proofs.reference.lists.weigh_all.Given as goal

abbrev pub invariant-loop-entry : goal.invariant-loop-entry
invariant-loop-entry l = l.all ≡ sum_by weight (take l.entry-index l.items)
