use mathlib.Core.List.{map-id}
use Rattle.std.proofs.Common.{rules, ◌≡◌, List, sym, ap, ◌∙◌, map}
use Rattle.std.proofs.lemmas.Iterator.Adapters.{YieldsList-from_vec}
use Rattle.std.proofs.lemmas.Iterator.Consumers.{YieldsList-end}
use Rattle.tc_locked.specs.Closing.{add_seats, seat_face}
use Rattle.tc_locked.specs.HallBooks.{SeatState}
use Rattle.tc_locked.proofs.closing.take_seats.Goals as goal

pub returns : goal.returns
returns g c =
    let end = YieldsList-end (YieldsList-from_vec {s = c.into_iter-seat-iterator.result} c.args.seats.items (search rules)
    (search rules)) c.loop-seat.yielded c.loop-seat.seat-iterator c.loop-seat.yielded_by c.next.result c.next.new.self c.in-None.is
    c.next.ensures.steps in
    let all : c.loop-seat.yielded ≡ c.args.seats.items = sym (map-id c.loop-seat.yielded) ∙ end.0 in (
      c.loop-seat.invariant.0,
      c.loop-seat.invariant.1
          ∙ ap (λ (l : List SeatState). (add_seats c.args.all.now.me.0 (map seat_face l), c.args.all.now.me.1)) all,
    )
