use Rattle.std.proofs.Common.{sym, ap, ◌∙◌}
use Rattle.tc_locked.proofs.TableSteps.{joins}
use Rattle.tc_locked.proofs.closing.take_seat.Goals as goal

pub join_seat-requires : goal.join_seat-requires
join_seat-requires g c = (
  c.requires.all ∙ sym c.requires.table.0,
  c.seat.invariant.0 ∙ sym c.requires.table.0,
  ap (λ m. m.1) c.seat.invariant.2,
  c.requires.table.1,
  joins c.args.all.now.id c.args.all.now.me.0 c.seat.inside.inner.id c.seat.inside.inner.me.0,
)
