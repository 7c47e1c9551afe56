use Rattle.std.proofs.Common.{◌≡◌, take}
use Rattle.tc_plain.proofs.reference.lists.copy_all.Given as goal

abbrev pub invariant-loop-entry : goal.invariant-loop-entry
invariant-loop-entry l = l.copied.items ≡ take l.entry-index l.items
