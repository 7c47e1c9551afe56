use Rattle.std.proofs.Common.{subst}
use Rattle.tc_links.specs.Turns.{WorkerState, Serves}
use Rattle.tc_workers.proofs.Visiting.{serves-same}
use Rattle.tc_workers.proofs.worker.Worker.begin_visit.Goals as goal

pub returns-in_default-clause-serves : goal.returns-in_default-clause-serves
returns-in_default-clause-serves g c = λ rows. serves-same c.admit.ensures

pub returns-clause-serves : goal.returns-clause-serves
returns-clause-serves g c =
    λ rows.
    subst (λ (w : WorkerState). Serves 0 rows w c.take_in.new.self) c.admit.ensures (c.take_in.ensures.serves rows)
