use Rattle.std.proofs.Common.{sym, ◌∙◌}
use Rattle.tc_locked.proofs.TableSteps.{joins}
use Rattle.tc_locked.proofs.closing.take_book.Goals as goal

pub join_seat-requires : goal.join_seat-requires
join_seat-requires g c = (
  c.requires.all ∙ sym c.requires.table.0,
  c.into_seat.ensures.0 ∙ c.hall_book.invariant.0 ∙ sym c.requires.table.0,
  c.into_seat.ensures.3,
  c.requires.table.1,
  joins c.args.all.now.id c.args.all.now.me.0 c.into_seat.result.id c.into_seat.result.me.0,
)
