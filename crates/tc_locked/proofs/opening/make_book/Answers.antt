use Rattle.std.proofs.Common.{sym, ap, ◌∙◌}
use Rattle.tc_locked.proofs.TableSteps.{adds_book}
use Rattle.tc_locked.proofs.opening.make_book.Goals as goal

pub split_seat-own-requires : goal.split_seat-own-requires
split_seat-own-requires g c = (
  c.requires.first.0 ∙ sym c.requires.table.0,
  c.requires.table.1,
  adds_book c.args.first.now.id c.args.first.now.me.0 (ap (λ m. m.0.mints) c.requires.first.1),
)
