use Rattle.std.specs.Prelude.{cond}
use Rattle.std.proofs.Common.{Some, None, sym, ◌∙◌, ap}
use Rattle.tc_plain.specs.Entries.{lives}
use Rattle.tc_plain.proofs.Used.{held_later}
use Rattle.tc_partition.specs.LiveSlots.{live_of}
use Rattle.tc_partition.proofs.Touched.{held_kept, held_kept_none}
use Rattle.tc_partition.proofs.live_slots.LiveSlots.seek_entry.Goals as goal

pub returns-in_err-found : goal.returns-in_err-found
returns-in_err-found c =
    rw c.from_residual.ensures
    (held_later c.args.key.now c.args.moment (live_of c.args.self.now) None (sym c.if-is_flush_due.ensures)
    (held_kept_none c.args.key.now (lives c.args.moment) c.args.self.now.held.areas c.in_err-found.ensures))

pub returns-then-alive : goal.returns-then-alive
returns-then-alive c =
    let e = c.in_ok-found.found.1.now in (
      c.in_ok-found.ensures.0,
      held_later c.args.key.now c.args.moment (live_of c.args.self.now) (Some e) (sym c.if-is_flush_due.ensures)
          (held_kept c.args.key.now (lives c.args.moment) c.args.self.now.held.areas e (c.requires.once c.args.key.now)
          c.in_ok-found.ensures.1
          ∙ ap (λ b. cond b (Some e) None) (sym c.if-alive.ensures)),
    )

pub returns-else-alive : goal.returns-else-alive
returns-else-alive c =
    let e = c.in_ok-found.found.1.now in
    held_later c.args.key.now c.args.moment (live_of c.args.self.now) None (sym c.if-is_flush_due.ensures)
    (held_kept c.args.key.now (lives c.args.moment) c.args.self.now.held.areas e (c.requires.once c.args.key.now)
    c.in_ok-found.ensures.1
    ∙ ap (λ b. cond b (Some e) None) (sym c.if-alive.ensures))
