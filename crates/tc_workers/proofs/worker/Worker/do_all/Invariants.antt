use Rattle.std.proofs.Common.{◌≡◌, ◌*◌}
use Rattle.tc_links.specs.Turns.{Serves}
use Rattle.tc_workers.proofs.worker.Worker.do_all.Given as goal

abbrev pub invariant-loop-at : goal.invariant-loop-at
invariant-loop-at g l =
    (l.self.due ≡ l.initial.self.due) × Serves (16 * l.at) l.service.users.now l.initial.self l.self
