use Rattle.std.specs.Prelude.{reverse, nat_lt}
use Rattle.std.specs.List.{list_all}
use Rattle.std.proofs.Common.{◌≡◌, ◌≤◌, length, take}
use Rattle.tc_model.specs.Areas.{shortest}
use Rattle.tc_plain.specs.Entries.{weight}
use Rattle.tc_plain.specs.AreaLists.{frequency_in}
use Rattle.tc_plain.proofs.reference.settling.outranked.Given as goal

abbrev pub invariant-loop-left : goal.invariant-loop-left
invariant-loop-left l = (l.left ≤ length l.items)
    × (list_all (λ e. nat_lt (frequency_in l.sketch e) l.level) (shortest weight l.need (reverse (take l.left l.items)))
    ≡ list_all (λ e. nat_lt (frequency_in l.sketch e) l.level) (shortest weight l.fn.need (reverse l.items)))

abbrev pub decreases-loop-left : goal.decreases-loop-left
decreases-loop-left l = l.left
