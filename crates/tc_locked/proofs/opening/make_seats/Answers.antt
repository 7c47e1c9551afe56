use Rattle.std.proofs.Common.{sym, ap, ◌∙◌}
use Rattle.tc_locked.proofs.TableSteps.{adds_seat}
use Rattle.tc_locked.proofs.opening.make_seats.Goals as goal

pub split_seat-inner-requires : goal.split_seat-inner-requires
split_seat-inner-requires g c = (
  c.loop-number.invariant.0 ∙ sym c.requires.table.0,
  c.requires.table.1,
  adds_seat c.loop-number.first.id c.loop-number.first.me.0 (ap (λ m. m.0.mints) c.loop-number.invariant.1),
)
