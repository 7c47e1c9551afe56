use Rattle.std.proofs.Common.{◌≡◌, ◌≤◌, [], vec_len}
use Rattle.std.specs.Prelude.{vec_capacity}
use Rattle.tc_locked.specs.Views.{first_view}
use Rattle.tc_locked.specs.Calls.{new_seats}
use Rattle.tc_locked.proofs.opening.make_seats.Given as goal

abbrev pub invariant-loop-number : goal.invariant-loop-number
invariant-loop-number g l =
    (l.first.table_id ≡ g.N.Naming.table) × (l.first.me ≡ (first_view 1 l.number, [])) × (l.out.items ≡ new_seats l.number)
    × (vec_len l.out ≡ l.number) × (l.seats ≤ vec_capacity l.out)
