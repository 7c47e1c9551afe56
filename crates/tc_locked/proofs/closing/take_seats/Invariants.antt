use Rattle.std.proofs.Common.{◌≡◌, map}
use Rattle.tc_locked.specs.Closing.{add_seats, seat_face}
use Rattle.tc_locked.proofs.closing.take_seats.Given as goal

abbrev pub invariant-loop-seat : goal.invariant-loop-seat
invariant-loop-seat g l =
    (l.all.table_id ≡ g.N.Naming.table)
    × (l.all.me ≡ (add_seats l.initial.all.me.0 (map seat_face l.yielded), l.initial.all.me.1))
    × (goal.iterator-loop-seat g).can_next l.seat-iterator × (goal.iterator-loop-seat g).is_finite l.seat-iterator
