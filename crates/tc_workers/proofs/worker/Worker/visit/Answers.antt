use Rattle.std.proofs.Common.{subst}
use Rattle.tc_links.specs.Turns.{WorkerState, Serves}
use Rattle.tc_workers.proofs.worker.Worker.visit.Goals as goal

pub returns-clause-serves : goal.returns-clause-serves
returns-clause-serves g c =
    subst (λ (w : WorkerState). Serves 16 c.args.service.now.users.now w c.do_admitted.new.self) c.read_ahead.ensures
    c.do_admitted.ensures.serves
