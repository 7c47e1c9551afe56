use Rattle.std.proofs.Common.{◌≡◌, take}
use Rattle.tc_item.proofs.few.lengthened.Given as goal

abbrev pub invariant-loop-item : goal.invariant-loop-item
invariant-loop-item g l = l.copied.items ≡ take l.item-index l.items
